-- The scopes of messages do not depend on tables.
use Rattle.std.proofs.Common.{◌≡◌, ℕ, zero, suc, ◌-◌, not, ◌||◌, eqb, leb, List, [], ◌∷◌, ◌++◌, map, length, get_or, sym, refl, ap, ◌∙◌, ap₂, inl, inr}
use mathlib.Core.Path.{fun_ext}
use Rattle.std.proofs.lemmas.List.{map_push, map-append}
use Rattle.std.proofs.lemmas.Bool.{cases_Bool}
use Rattle.costs.specs.Structures.{Structure}
use Rattle.variables.specs.Lists.{has}
use Rattle.problems.specs.Problems.{Function}
use Rattle.floors.specs.Settings.{kept}
use Rattle.floors.specs.MiniBuckets.{mentions, variables, joined, split_from, message}
use Rattle.floors.specs.ByNumber.{lies_in, bucket_messages}
use Rattle.buckets.specs.Made.{bucket_made, bare, message_scope, scopes_from, scopes_made}
use Rattle.buckets.proofs.Filters.{kept_map, map_map}

module _ {C : Type 0} where
  abbrev pub scope_in : Function C → List ℕ
  scope_in f = f.scope

  abbrev strip : Function C → Function ℕ
  strip f = bare f.scope

  mentions_strip : (fs : List (Function C)) (v : ℕ) → mentions (map strip fs) v ≡ mentions fs v
  mentions_strip [] v = refl
  mentions_strip (f ∷ fs) v = ap (λ b. has f.scope v || b) (mentions_strip fs v)

  variables_strip : (order : List ℕ) (fs : List (Function C)) → variables order (map strip fs) ≡ variables order fs
  variables_strip order fs = ap (λ p. kept p order) (fun_ext (mentions_strip fs))

  module _ (order : List ℕ) (w : ℕ) where
    joined_strip : (f : Function C) (bs : List (List (Function C))) → joined order w (strip f) (map (map strip) bs) ≡ map (map strip) (joined order w f bs)
    joined_strip f [] = refl
    joined_strip f (b ∷ bs) =
        let push = map_push strip b f in
        let test : leb (length (variables order (map strip b ++ (strip f ∷ [])))) w ≡ leb (length (variables order (b ++ (f ∷ [])))) w =
        ap (λ (l : List (Function ℕ)). leb (length (variables order l)) w) (sym push) ∙ ap (λ l. leb (length l) w) (variables_strip order (b ++ f ∷ [])) in
        elim (cases_Bool (leb (length (variables order (b ++ (f ∷ [])))) w)) [
          | inl e ↦ rw (test, e) (ap (λ (l : List (Function ℕ)). l ∷ map (map strip) bs) (sym push))
          | inr e ↦ rw (test, e) (ap (λ (l : List (List (Function ℕ))). map strip b ∷ l) (joined_strip f bs))
        ]

    split_strip : (bs : List (List (Function C))) (fs : List (Function C)) → split_from order w (map (map strip) bs) (map strip fs) ≡ map (map strip) (split_from order w bs fs)
    split_strip bs [] = refl
    split_strip bs (f ∷ fs) = ap (λ (l : List (List (Function ℕ))). split_from order w l (map strip fs)) (joined_strip f bs) ∙ split_strip (joined order w f bs) fs

    pub scopes_of_messages : (K : Structure C) (sizes : List ℕ) (p : ℕ) (fs : List (Function C)) → map scope_in (bucket_messages K sizes order w p fs) ≡ scopes_from order w p (map scope_in fs)
    scopes_of_messages K sizes p fs =
        let v : ℕ = get_or order (p - 1) 0 in
        let minis : List (List (Function C)) = split_from order w [] (kept (lies_in order p) fs) in
        let bares : map bare (map scope_in fs) ≡ map strip fs = map_map bare scope_in fs in
        let stripped : split_from order w [] (kept (lies_in order p) (map bare (map scope_in fs))) ≡ map (map strip) minis =
        ap (λ (l : List (Function ℕ)). split_from order w [] (kept (lies_in order p) l)) bares
        ∙ ap (split_from order w []) (kept_map strip (lies_in order p) fs) ∙ split_strip [] (kept (lies_in order p) fs) in
        map_map scope_in (message K sizes order v) minis
        ∙ ap (λ (h : List (Function C) → List ℕ). map h minis) (fun_ext (λ b. ap (kept (λ u. not (eqb u v))) (sym (variables_strip order b))))
        ∙ sym (map_map (message_scope order v) (map strip) minis)
        ∙ sym (ap (map (message_scope order v)) stripped)

    pub scopes_of_made : (K : Structure C) (sizes : List ℕ) (fs : List (Function C)) (k : ℕ) → map scope_in (bucket_made K sizes order w fs k) ≡ scopes_made order w (map scope_in fs) k
    scopes_of_made K sizes fs zero = refl
    scopes_of_made K sizes fs (suc k) =
        let p : ℕ = length order - k in
        let ih = scopes_of_made K sizes fs k in
        map-append scope_in (bucket_made K sizes order w fs k) _
        ∙ ap₂ ◌++◌ ih (scopes_of_messages K sizes p (fs ++ bucket_made K sizes order w fs k)
        ∙ ap (scopes_from order w p) (map-append scope_in fs (bucket_made K sizes order w fs k) ∙ ap (λ (l : List (List ℕ)). map scope_in fs ++ l) ih))
