-- What a list in fixed memory holds.
use Rattle.std.specs.Prelude.{ℕ, List, take}
use Rattle.lists.specs.declared.plain.ShortList.{ShortList}

-- the items in their order
abbrev pub items_of : {T : Type 0} {N : ℕ} → ShortList T N → List T
items_of l = take l.len l.slots
