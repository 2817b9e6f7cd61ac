-- A loop over the records that a prefix reaches comes to the mini-bucket floor.
use Rattle.std.proofs.Common.{◌≡◌, ℕ, zero, suc, ◌+◌, ◌-◌, ◌<◌, ◌≤◌, true, leb, List, [], ◌∷◌, ◌++◌, map, length, get_or, take, Option, sym, ap, ◌∙◌, subst, ap₂, arith}
use Rattle.std.specs.List.{AllByRecursion}
use Rattle.std.proofs.lemmas.List.{length-map, length-append, map-append, take-map, length-take-le}
use Rattle.costs.specs.Structures.{Structure, Lawful, total}
use Rattle.variables.specs.Lists.{has}
use Rattle.variables.specs.Assignments.{of, along}
use Rattle.problems.specs.Problems.{Function}
use Rattle.problems.specs.Records.{Placed, nth, held, function_in}
use Rattle.problems.specs.Outlines.{Outline, problem}
use Rattle.floors.specs.Settings.{kept, costs_at, Formed, Fits}
use Rattle.floors.specs.MiniBuckets.{split_from, mini_bucket_floor}
use Rattle.floors.specs.ByNumber.{bucket_of, lies_in, bucket_messages}
use Rattle.floors.specs.Sources.{bucket_in, picked}
use Rattle.floors.specs.Shapes.{shaped}
use Rattle.floors.specs.Scopes.{Within, within_append}
use Rattle.floors.specs.Covers.{covered}
use Rattle.floors.specs.Eliminations.{messages_within}
use Rattle.floors.proofs.Pickings.{noted_picked}
use Rattle.floors.proofs.Paids.{given, given_length, kept_along}
use Rattle.buckets.specs.declared.plain.MiniBucket.{MiniBucket}
use Rattle.buckets.specs.Listed.{listed}
use Rattle.buckets.specs.Made.{bucket_made, scopes_made, placed_made}
use Rattle.buckets.specs.Processed.{scopes_of}
use Rattle.buckets.specs.Sources.{Kept}
use Rattle.buckets.proofs.Filters.{map_map}
use Rattle.buckets.proofs.Listing.{listed_length, nth_take, take_past}
use Rattle.buckets.proofs.Scopes.{scope_in, scopes_of_made}
use Rattle.buckets.proofs.Made.{made_front, floor_made}
use Rattle.buckets.specs.Laying.{placed_length, placed_front}

-- messages are over variables of the order
made_within : {C : Type 0} {K : Structure C} (L : Lawful K) (sizes order : List ℕ) (w : ℕ) (fs : List (Function C)) (k : ℕ) → Within (λ u. has order u ≡ true) (bucket_made K sizes order w fs k)
made_within {C} {K} L sizes order w fs zero v m = grind arith
made_within {C} {K} L sizes order w fs (suc k) v m =
    let p : ℕ = length order - k in
    let all : List (Function C) = fs ++ bucket_made K sizes order w fs k in
    let minis : List (List (Function C)) = split_from order w [] (kept (lies_in order p) all) in
    within_append (λ u. has order u ≡ true) (bucket_made K sizes order w fs k) (bucket_messages K sizes order w p all) (made_within L sizes order w fs k)
    (λ u h. (messages_within L sizes order (λ x. Unit {0}) (get_or order (p - 1) 0) minis (anything minis) u h).0) v m
  where
    anything : (bs : List (List (Function C))) → AllByRecursion (Within (λ u. Unit {0})) bs
    anything [] = tt
    anything (b ∷ bs) = (λ u h. tt, anything bs)

module _ {C : Type 0} (K : Structure C) (L : Lawful K) (o : Outline) (area : List C) (formed : Formed (problem o area)) (values : List ℕ) (n : ℕ) (le : n ≤ length o.order)
    (fits : Fits (problem o area) (given K L o area formed values n le)) (s : MiniBucket) (at : ℕ) (notes : Kept K s o area at) where
  abbrev N : ℕ
  N = length o.order

  abbrev k : ℕ
  k = N - n

  abbrev w : ℕ
  w = s.width

  abbrev Placeds : ℕ → List Placed
  Placeds j = placed_made o.sizes o.order w (scopes_of o.functions) at j

  abbrev FS : List (Function C)
  FS = map (function_in o.sizes area) o.functions

  abbrev reach : ℕ
  reach = get_or s.made.reach n 0

  -- the records that the loop goes through
  abbrev pub reached : List Placed
  reached = take (get_or s.made.reach n 0) (listed s.made.records)

  reach_is : reach ≡ length o.functions + length (Placeds k)
  reach_is = notes.reach n le ∙ ap (λ m. length o.functions + m) (sym (placed_length o.sizes o.order w (scopes_of o.functions) at k))

  front : take (length (Placeds k)) (Placeds N) ≡ Placeds k
  front = placed_front o.sizes o.order w (scopes_of o.functions) at k N (omega arith)

  inside : reach ≤ s.made.records.list.len
  inside =
      let long : length (listed s.made.records) ≡ length o.functions + length (Placeds N) = ap length notes.records ∙ length-append o.functions (Placeds N) in
      let less : length (Placeds k) ≤ length (Placeds N) = less_than (Placeds k) (Placeds N) front in
      omega (arith, reach_is, listed_length s.made.records)
    where
      less_than : (xs ys : List Placed) → take (length xs) ys ≡ xs → length xs ≤ length ys
      less_than [] ys e = omega arith
      less_than (x ∷ xs) [] e = absurd (omega (arith, ap length e))
      less_than (x ∷ xs) (y ∷ ys) e = let tail : take (length xs) ys ≡ xs = cc in omega (arith, less_than xs ys tail)

  reached_is : reached ≡ o.functions ++ Placeds k
  reached_is =
      ap₂ (λ (m : ℕ) (l : List Placed). take m l) reach_is notes.records ∙ take_past o.functions (Placeds N) (length (Placeds k)) ∙ ap (λ (l : List Placed). o.functions ++ l) front

  made_length : length (Placeds k) ≡ length (bucket_made K o.sizes o.order w FS k)
  made_length =
      placed_length o.sizes o.order w (scopes_of o.functions) at k
      ∙ ap (λ (ss : List (List ℕ)). length (scopes_made o.order w ss k)) (sym (map_map scope_in (function_in o.sizes area) o.functions))
      ∙ sym (ap length (scopes_of_made o.order w K o.sizes FS k)) ∙ length-map (bucket_made K o.sizes o.order w FS k) scope_in

  functions_are : map (function_in o.sizes area) reached ≡ FS ++ bucket_made K o.sizes o.order w FS k
  functions_are =
      ap (map (function_in o.sizes area)) reached_is ∙ map-append (function_in o.sizes area) o.functions (Placeds k)
      ∙ ap (λ (l : List (Function C)). FS ++ l)
      (ap (map (function_in o.sizes area)) (sym front) ∙ sym (take-map (function_in o.sizes area) (length (Placeds k)) (Placeds N))
      ∙ ap₂ (λ (m : ℕ) (l : List (Function C)). take m l) made_length notes.tables ∙ made_front L o.sizes o.order w FS k N (omega arith))

  noted : (j : ℕ) → j < length reached → get_or s.buckets.places j 0 ≡ bucket_in o.order (nth reached j)
  noted j h =
      let r = s.made.records in
      let few : length reached ≡ reach = length-take-le reach (listed r) (omega (arith, inside, listed_length r)) in
      notes.buckets j (omega (arith, listed_length r, inside))
      ∙ ap (λ (f : Option Placed). bucket_in o.order f) (sym (nth_take reach (listed r) j (omega arith)))

  pub mini_told : total K (map (held K o.sizes area (of values)) (picked s.buckets.places n 0 reached)) ≡ mini_bucket_floor K w (problem o area) (given K L o area formed values n le)
  mini_told =
      let p = problem o area in
      let x = given K L o area formed values n le in
      let within : Within (λ v. has o.order v ≡ true) (map (function_in o.sizes area) reached) =
      subst (Within (λ v. has o.order v ≡ true)) (sym functions_are) (within_append (λ v. has o.order v ≡ true) FS (bucket_made K o.sizes o.order w FS k) (covered p (shaped p formed)) (made_within L o.sizes o.order w FS k)) in
      let long : length x ≡ n = given_length K L o area formed values n le in
      ap (λ (fs : List Placed). total K (map (held K o.sizes area (of values)) fs)) (noted_picked o.order s.buckets.places n reached noted)
      ∙ kept_along K L o area formed values n le fits reached within
      ∙ ap (λ (l : List (Function C)). costs_at K o.sizes (along o.order x) (kept (λ (f : Function C). leb (bucket_of o.order f.scope) n) l)) functions_are
      ∙ ap (λ m. costs_at K o.sizes (along o.order x) (kept (λ (f : Function C). leb (bucket_of o.order f.scope) m) (FS ++ bucket_made K o.sizes o.order w FS (N - m)))) (sym long)
      ∙ floor_made L p (shaped p formed) w x fits.0
