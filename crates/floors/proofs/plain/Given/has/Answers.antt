use Rattle.std.proofs.Common.{ℕ, leb, length, get_or, ◌∙◌, arith}
use Rattle.std.proofs.lemmas.Bool.{le-ltb}
use Rattle.floors.proofs.Leasts.{kept_here, kept_past}
use Rattle.floors.proofs.plain.Given.has.Goals as goal

pub returns-then-slot-lt32 : goal.returns-then-slot-lt32
returns-then-slot-lt32 c =
    let g = c.args.self.now in
    kept_here (λ (v : ℕ). leb (get_or g.places.places v 0) g.len) (length g.places.places) c.args.variable (omega arith)

pub returns-else-slot-lt32 : goal.returns-else-slot-lt32
returns-else-slot-lt32 c =
    let g = c.args.self.now in
    le-ltb c.args.variable 32 c.if-slot-lt32.false ∙ kept_past (λ (v : ℕ). leb (get_or g.places.places v 0) g.len) (length g.places.places) c.args.variable (omega arith)
