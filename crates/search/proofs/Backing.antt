-- Backing up, turn by turn.
use Rattle.std.proofs.Common.{◌≡◌, ℕ, suc, ◌+◌, ◌≤◌, min, true, List, [], ◌∷◌, reverse, length, Option, sym, refl, ap, ◌∙◌, ap₂, arith}
use Rattle.std.proofs.lemmas.Bool.{eq-eqb, ne_eqb}
use Rattle.variables.specs.declared.plain.Order.{Order}
use Rattle.variables.specs.declared.plain.Sizes.{Sizes}
use Rattle.variables.specs.declared.plain.Prefix.{Prefix}
use Rattle.variables.specs.Records.{order_of, sizes_of, prefix_of, Shorter}
use Rattle.search.specs.declared.plain.Place.{Place}
use Rattle.search.specs.Searches.{size_at, fit, settled}
use Rattle.search.specs.Places.{spot_of, Backs, Settles}
use Rattle.search.proofs.Spots.{path_long, path_shorter, size_small, fit_parts}

-- a value that is not the last stays next
pub settled_here : (sizes order path : List ℕ) (next : ℕ) (best : Option (List ℕ)) → (next ≡ size_at sizes order (length path) → ⊥)
    → settled sizes order path next best ≡ record { path = path; next = next; incumbent = best }
settled_here sizes order [] next best h = refl
settled_here sizes order (v ∷ path) next best h = rw (ne_eqb next (size_at sizes order (suc (length path))) h)

pub settled_back : (sizes order : List ℕ) (v : ℕ) (path : List ℕ) (next : ℕ) (best : Option (List ℕ)) → next ≡ size_at sizes order (suc (length path))
    → settled sizes order (v ∷ path) next best ≡ settled sizes order path (suc v) best
settled_back sizes order v path next best h = rw (eq-eqb next (size_at sizes order (suc (length path))) h)

-- what a turn of backing up keeps
pub record Backed (o : Order) (s : Sizes) (before : List ℕ) (first : ℕ) (p : Prefix) (next : ℕ) : Type 0 where
  pub usable : fit (sizes_of s) (order_of o) (reverse (prefix_of o p)) ≡ true
  pub low : p.len ≤ length (order_of o)
  pub leads : (best : Option (List ℕ)) → settled (sizes_of s) (order_of o) before first best ≡ settled (sizes_of s) (order_of o) (reverse (prefix_of o p)) next best

-- the same, from a prefix of usable values
abbrev pub Settling : Order → Sizes → Prefix → ℕ → Prefix → ℕ → Type 0
Settling o s b first p next =
    fit (sizes_of s) (order_of o) (reverse (prefix_of o b)) ≡ true → b.len ≤ length (order_of o) → Backed o s (reverse (prefix_of o b)) first p next

module _ (o : Order) (s : Sizes) (b : Prefix) (first : ℕ) (p : Prefix) (next : ℕ) (so_far : Settling o s b first p next) where
  pub settles_again : (a : Prefix) (value next' : ℕ) → next ≡ size_at (sizes_of s) (order_of o) p.len → Shorter o p a value → next' ≡ min (value + 1) 255 → Settling o s b first a next'
  settles_again a value next' used shorter e usable low =
      let now = so_far usable low in
      let sizes = sizes_of s in
      let order = order_of o in
      let path = reverse (prefix_of o a) in
      let longer : reverse (prefix_of o p) ≡ value ∷ path = path_shorter o p a value shorter in
      let parts = fit_parts sizes order value path (ap (fit sizes order) (sym longer) ∙ now.usable) in
      let few = size_small s order (length path) in
      let same : next' ≡ suc value = omega (arith, parts.0) in
      let long : length path ≡ a.len = path_long o a (omega (arith, now.low, shorter.len)) in
      let deep : p.len ≡ suc (length path) = omega (arith, shorter.len) in
      record {
        usable = parts.1;
        low = omega (arith, now.low, shorter.len);
        leads = λ best.
            now.leads best ∙ ap (λ xs. settled sizes order xs next best) longer ∙ settled_back sizes order value path next best (used ∙ ap (size_at sizes order) deep)
            ∙ ap (λ n. settled sizes order path n best) (sym same);
      }

  pub settles_here : (next ≡ size_at (sizes_of s) (order_of o) p.len → ⊥) → Settles o s b first p next
  settles_here more usable low best =
      let now = so_far usable low in
      now.leads best
      ∙ settled_here (sizes_of s) (order_of o) (reverse (prefix_of o p)) next best (λ e. more (e ∙ ap (size_at (sizes_of s) (order_of o)) (path_long o p now.low)))

-- the last value given up, and then backed up
pub backs : (o : Order) (s : Sizes) (b : Place) (a p : Prefix) (value first next : ℕ) → Shorter o b.prefix a value → first ≡ min (value + 1) 255 → Settles o s a first p next
    → Backs o s b (record { prefix = p; next = next; incumbent = b.incumbent })
backs o s b a p value first next shorter e settles last path is usable low =
    let sizes = sizes_of s in
    let order = order_of o in
    let same : last ∷ path ≡ value ∷ reverse (prefix_of o a) = sym is ∙ path_shorter o b.prefix a value shorter in
    let same-last : last ≡ value = cc in
    let same-path : path ≡ reverse (prefix_of o a) = cc in
    let parts = fit_parts sizes order last path usable in
    let few = size_small s order (length path) in
    let exact : first ≡ suc last = omega (arith, parts.0) in
    let best = (spot_of o b).incumbent in
    sym (ap₂ (λ xs n. settled sizes order xs n best) same-path (sym exact) ∙ settles (ap (fit sizes order) (sym same-path) ∙ parts.1) (omega (arith, shorter.len)) best)
