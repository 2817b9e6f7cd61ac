-- The messages that are still to come from the functions that wait.
use Rattle.std.proofs.Common.{◌≡◌, ℕ, ◌+◌, ◌-◌, ◌*◌, ◌<◌, ◌≤◌, true, not, eqb, List, [], ◌∷◌, ◌++◌, map, length, get_or, sym, refl, ap, ◌∙◌, ap₂, add-one, arith}
use Rattle.std.specs.List.{AllByRecursion}
use Rattle.std.proofs.lemmas.List.{length-map, length-append, append_assoc, length_push}
use Rattle.std.proofs.ByRecursion.{All-weaker}
use Rattle.std.proofs.lemmas.Bool.{and_parts, eqb-true}
use Rattle.variables.specs.Lists.{known, distinct}
use Rattle.variables.specs.Assignments.{cells}
use Rattle.problems.specs.Problems.{Function}
use Rattle.problems.specs.Records.{Placed}
use Rattle.variables.specs.Rules.{proper}
use Rattle.floors.specs.Settings.{kept}
use Rattle.floors.specs.MiniBuckets.{split_from}
use Rattle.floors.specs.ByNumber.{bucket_of, lies_in}
use Rattle.buckets.specs.Joining.{names, lies_at, taken, passed}
use Rattle.buckets.specs.Made.{bare, message_scope, scopes_from, all_cells}
use Rattle.buckets.specs.Processed.{scopes_of, Ready}
use Rattle.buckets.proofs.Filters.{kept_map, map_map, all_passing}
use Rattle.buckets.proofs.Joining.{first_fit, variables_names, all_passed, passed_length}
use Rattle.buckets.proofs.Propers.{proper_message}

abbrev pub stripped : Placed → Function ℕ
stripped f = bare f.scope

-- the scopes of the messages to come
abbrev pub come : List ℕ → ℕ → ℕ → List Placed → List (List ℕ)
come order w v ws = map (message_scope order v) (split_from order w [] (map stripped ws))

-- the scope of the next
abbrev pub next_scope : List ℕ → ℕ → ℕ → List Placed → List ℕ
next_scope order w v ws = kept (λ u. not (eqb u v)) (kept (names (taken order w [] ws)) order)

module _ (order : List ℕ) (w : ℕ) where
  pub come_step : (v : ℕ) (ws : List Placed) → 0 < length ws → come order w v ws ≡ next_scope order w v ws ∷ come order w v (passed order w [] ws)
  come_step v [] h = absurd (omega arith)
  come_step v (f ∷ fs) h =
      ap (map (message_scope order v)) (first_fit stripped (λ g. refl) order w f fs)
      ∙ ap (λ (s : List ℕ). kept (λ u. not (eqb u v)) s ∷ come order w v (passed order w [] (f ∷ fs))) (variables_names stripped (λ g. refl) order (taken order w [] (f ∷ fs)))

  pub come_first : (p : ℕ) (rs : List Placed) → come order w (get_or order p 0) (kept (lies_at order (p + 1)) rs) ≡ scopes_from order w (p + 1) (scopes_of rs)
  come_first p rs =
      let back : p + 1 - 1 ≡ p = omega arith in
      let lying : map stripped (kept (lies_at order (p + 1)) rs) ≡ kept (lies_in order (p + 1)) (map bare (scopes_of rs)) =
      sym (kept_map stripped (lies_in order (p + 1)) rs) ∙ ap (kept (lies_in order (p + 1))) (sym (map_map bare (λ (f : Placed). f.scope) rs)) in
      ap₂ (λ i (l : List (Function ℕ)). map (message_scope order (get_or order i 0)) (split_from order w [] l)) (sym back) lying

  pub passed_less : (ws : List Placed) → 0 < length ws → length (passed order w [] ws) < length ws
  passed_less [] h = absurd (omega arith)
  passed_less (f ∷ fs) h = omega (arith, passed_length order w (f ∷ []) fs)

-- what lies in a bucket
abbrev pub Lies : List ℕ → ℕ → List Placed → Type 0
Lies order p ws = AllByRecursion (λ (f : Placed). bucket_of order f.scope ≡ p + 1) ws

pub lying : (order : List ℕ) (p : ℕ) (rs : List Placed) → Lies order p (kept (lies_at order (p + 1)) rs)
lying order p rs = All-weaker _ _ (λ f e. eqb-true _ _ e) (kept (lies_at order (p + 1)) rs) (all_passing (lies_at order (p + 1)) rs)

module _ (sizes order : List ℕ) (w p : ℕ) (fs : List Placed) (ready : Ready sizes order w p fs) where
  order_parts : (known (length sizes) order ≡ true) × (distinct order ≡ true)
  order_parts = and_parts (known (length sizes) order) (distinct order) (and_parts (eqb (length order) (length sizes)) _ ready.ordered).1

  pub proper_next : (ws : List Placed) → 0 < length ws → AllByRecursion (λ (f : Placed). length f.scope ≤ 5) ws → Lies order p ws → proper (length sizes) (next_scope order w (get_or order p 0) ws) ≡ true
  proper_next [] h few lies = absurd (omega arith)
  proper_next (g ∷ gs) h few lies =
      proper_message (length sizes) order order_parts.1 order_parts.0 w ready.narrow p ready.number g gs few
      (All-weaker _ _ (λ f e. e ∙ add-one p) (g ∷ gs) lies)

-- counting

abbrev pub filed : ℕ → List ℕ → Placed
filed p s = record { scope = s; origin = p + 1; start = 0 }

pub record Counting (sizes order : List ℕ) (w p : ℕ) (rs₀ rs ws : List Placed) (n : ℕ) : Type 0 where
  pub records : rs ++ map (filed p) (come order w (get_or order p 0) ws) ≡ rs₀ ++ map (filed p) (scopes_from order w (p + 1) (scopes_of rs₀))
  pub cells_are : n + all_cells sizes (come order w (get_or order p 0) ws) ≡ all_cells sizes (scopes_from order w (p + 1) (scopes_of rs₀))
  pub lies : Lies order p ws
  pub small : n ≤ length rs * 1048576

module _ (sizes order : List ℕ) (w p : ℕ) (rs₀ : List Placed) where
  pub counting_begins : (ws : List Placed) → ws ≡ kept (lies_at order (p + 1)) rs₀ → Counting sizes order w p rs₀ rs₀ ws 0
  counting_begins ws e =
      let first : come order w (get_or order p 0) ws ≡ scopes_from order w (p + 1) (scopes_of rs₀) = ap (come order w (get_or order p 0)) e ∙ come_first order w p rs₀ in
      record {
        records = ap (λ (ss : List (List ℕ)). rs₀ ++ map (filed p) ss) first;
        cells_are = omega (arith, ap (all_cells sizes) first);
        lies = rw e (lying order p rs₀);
        small = omega arith;
      }

  module _ (rs ws : List Placed) (n : ℕ) (c : Counting sizes order w p rs₀ rs ws n) (some : 0 < length ws) where
    pub counting_slot : Ready sizes order w p rs₀ → length rs < 384
    counting_slot ready =
        let step = come_step order w (get_or order p 0) ws some in
        omega (
          arith,
          ready.slots,
          ap length c.records,
          length-append rs (map (filed p) (come order w (get_or order p 0) ws)),
          length-map (come order w (get_or order p 0) ws) (filed p),
          ap length step,
          length-append rs₀ (map (filed p) (scopes_from order w (p + 1) (scopes_of rs₀))),
          length-map (scopes_from order w (p + 1) (scopes_of rs₀)) (filed p),
        )

    pub counting_goes : (rs' ws' : List Placed) (scope : List ℕ) (n' : ℕ) → scope ≡ next_scope order w (get_or order p 0) ws → rs' ≡ rs ++ filed p scope ∷ [] → ws' ≡ passed order w [] ws → n' ≡ n + cells sizes scope
        → cells sizes scope ≤ 1048576 → Counting sizes order w p rs₀ rs' ws' n'
    counting_goes rs' ws' scope n' s r e m few =
        let v : ℕ = get_or order p 0 in
        let step : come order w v ws ≡ scope ∷ come order w v ws' = come_step order w v ws some ∙ ap₂ (λ (x : List ℕ) (l : List Placed). x ∷ come order w v l) (sym s) (sym e) in
        record {
          records = ap (λ (l : List Placed). l ++ map (filed p) (come order w v ws')) r ∙ append_assoc rs (filed p scope ∷ []) (map (filed p) (come order w v ws'))
              ∙ ap (λ (ss : List (List ℕ)). rs ++ map (filed p) ss) (sym step) ∙ c.records;
          cells_are = omega (arith, c.cells_are, ap (all_cells sizes) step);
          lies = rw e (all_passed order w (λ (f : Placed). bucket_of order f.scope ≡ p + 1) [] ws c.lies);
          small = omega (arith, c.small, ap length r, length_push rs (filed p scope));
        }
