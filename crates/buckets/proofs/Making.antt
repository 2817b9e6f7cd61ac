-- Messages made one after the other, each behind those that stand.
use Rattle.std.proofs.Common.{◌≡◌, ℕ, suc, ◌+◌, ◌-◌, ◌<◌, ◌≤◌, Bool, true, false, not, ◌||◌, eqb, List, [], ◌∷◌, ◌++◌, map, length, get_or, take, drop, sym, refl, ap, ◌∙◌, ap₂, inl, inr, arith}
use Rattle.std.proofs.lemmas.List.{length-append, append_assoc, append-nil, length-take-le, length-drop, take_at, drop_at, take-take, drop-drop, map_push, append_cancel_left}
use Rattle.std.proofs.ByRecursion.{All-weaker}
use Rattle.std.proofs.lemmas.Bool.{cases_Bool, or_left, or_right}
use Rattle.std.proofs.lemmas.Bool.Decides.{nat_tests}
use Rattle.costs.specs.Structures.{Structure}
use Rattle.variables.specs.Lists.{has}
use Rattle.variables.specs.Assignments.{cells}
use Rattle.problems.specs.Problems.{Function}
use Rattle.problems.specs.Records.{Placed, function_in, laid_from}
use Rattle.problems.proofs.Placements.{laid_push}
use Rattle.problems.proofs.Tables.{same_part, same_below}
use Rattle.floors.specs.Settings.{kept}
use Rattle.floors.specs.MiniBuckets.{split_from, message, tabulate, eliminated}
use Rattle.floors.specs.ByNumber.{bucket_of, lies_in, bucket_messages}
use Rattle.floors.specs.Scopes.{has_kept}
use Rattle.floors.specs.Tables.{tabulate_length}
use Rattle.buckets.specs.Joining.{names, joins, lies_at, taken, passed}
use Rattle.buckets.specs.Made.{scopes_from, all_cells, laid_out}
use Rattle.buckets.specs.Processed.{scopes_of, Ready, Roomy, Processed}
use Rattle.buckets.specs.Tables.{Below}
use Rattle.buckets.specs.Laying.{laid_ends}
use Rattle.buckets.proofs.Filters.{kept_map, all_kept}
use Rattle.buckets.proofs.Joining.{first_fit, variables_names, names_push, all_taken, all_passed}
use Rattle.buckets.proofs.Coming.{come, next_scope, come_step, come_first, Lies, lying}

-- what is named

names_kept : (p : Placed → Bool) (fs : List Placed) (u : ℕ) → names (kept p fs) u ≡ true → names fs u ≡ true
names_kept p [] u h = h
names_kept p (f ∷ fs) u h = let ih = names_kept p fs u in grind arith

names_taken : (order : List ℕ) (w : ℕ) (ms fs : List Placed) (u : ℕ) → names (taken order w ms fs) u ≡ true → (names ms u || names fs u) ≡ true
names_taken order w ms [] u h = or_left (names ms u) false h
names_taken order w ms (f ∷ fs) u h =
    let push = names_push ms f u in
    elim (cases_Bool (joins order w ms f.scope)) [
      | inl e ↦ let ih = names_taken order w (ms ++ f ∷ []) fs u (rw e at h) in grind arith
      | inr e ↦ let ih = names_taken order w ms fs u (rw e at h) in grind arith
    ]

names_passed : (order : List ℕ) (w : ℕ) (ms fs : List Placed) (u : ℕ) → names (passed order w ms fs) u ≡ true → names fs u ≡ true
names_passed order w ms [] u h = h
names_passed order w ms (f ∷ fs) u h =
    elim (cases_Bool (joins order w ms f.scope)) [
      | inl e ↦ let ih = names_passed order w (ms ++ f ∷ []) fs u (rw e at h) in or_right (has f.scope u) (names fs u) ih
      | inr e ↦ let ih = names_passed order w ms fs u in let k : (has f.scope u || names (passed order w ms fs) u) ≡ true = rw e at h in grind arith
    ]

-- tables that lie below a cell are the same in areas that agree up to there
pub below_same : {C : Type 0} (sizes : List ℕ) (area area' : List C) (m : ℕ) → take m area' ≡ take m area → (fs : List Placed) → Below sizes m fs → map (function_in sizes area') fs ≡ map (function_in sizes area) fs
below_same sizes area area' m h [] low = refl
below_same {C} sizes area area' m h (f ∷ fs) low =
    ap₂ (λ (t : List C) (gs : List (Function C)). record { scope = f.scope; table = t } ∷ gs) (same_part area' area m f.start (cells sizes f.scope) h low.0) (below_same sizes area area' m h fs low.1)

-- an area with a table written into it
module _ {C : Type 0} (area after table : List C) (end n : ℕ) (long : length table ≡ n) (room : end + n ≤ length area) (is : after ≡ take end area ++ (table ++ drop (end + n) area)) where
  front : length (take end area) ≡ end
  front = length-take-le end area (omega arith)

  both : length (take end area ++ table) ≡ end + n
  both = length-append (take end area) table ∙ omega (arith, front)

  pub put_before : take end after ≡ take end area
  put_before = ap (take end) is ∙ take_at (take end area) (table ++ drop (end + n) area) end front

  pub put_there : take n (drop end after) ≡ table
  put_there = ap (λ (l : List C). take n (drop end l)) is ∙ ap (take n) (drop_at (take end area) (table ++ drop (end + n) area) end front) ∙ take_at table (drop (end + n) area) n long

  pub put_behind : drop (end + n) after ≡ drop (end + n) area
  put_behind = ap (drop (end + n)) (is ∙ sym (append_assoc (take end area) table (drop (end + n) area))) ∙ drop_at (take end area ++ table) (drop (end + n) area) (end + n) both

  pub put_long : length after ≡ length area
  put_long =
      ap length (is ∙ sym (append_assoc (take end area) table (drop (end + n) area))) ∙ length-append (take end area ++ table) (drop (end + n) area)
      ∙ omega (arith, both, length-drop (end + n) area)

pub record Making {C : Type 0} (K : Structure C) (sizes order : List ℕ) (w p : ℕ) (rs₀ : List Placed) (area₀ : List C) (end₀ : ℕ) (rs ws : List Placed) (area : List C) (end : ℕ) : Type 0 where
  pub new : List Placed
  pub is_new : rs ≡ rs₀ ++ new
  pub records : rs ++ laid_out sizes (p + 1) end (come order w (get_or order p 0) ws) ≡ rs₀ ++ laid_out sizes (p + 1) end₀ (scopes_from order w (p + 1) (scopes_of rs₀))
  pub ends : end + all_cells sizes (come order w (get_or order p 0) ws) ≡ end₀ + all_cells sizes (scopes_from order w (p + 1) (scopes_of rs₀))
  pub tables : map (function_in sizes area) new ++ map (message K sizes order (get_or order p 0)) (split_from order w [] (map (function_in sizes area₀) ws)) ≡ bucket_messages K sizes order w (p + 1) (map (function_in sizes area₀) rs₀)
  pub laid : laid_from sizes end₀ new end ≡ true
  pub long : length area ≡ length area₀
  pub before : take end₀ area ≡ take end₀ area₀
  pub behind : drop end area ≡ drop end area₀
  pub lies : Lies order p ws
  pub low : Below sizes end₀ ws
  pub inside : (u : ℕ) → names ws u ≡ true → has order u ≡ true

module _ {C : Type 0} (K : Structure C) (sizes order : List ℕ) (w p : ℕ) (rs₀ : List Placed) (area₀ : List C) (end₀ : ℕ) (roomy : Roomy sizes order w p rs₀ end₀ (length area₀)) where
  pub making_begins : (ws : List Placed) → ws ≡ kept (lies_at order (p + 1)) rs₀ → Making K sizes order w p rs₀ area₀ end₀ rs₀ ws area₀ end₀
  making_begins ws e =
      let first : come order w (get_or order p 0) ws ≡ scopes_from order w (p + 1) (scopes_of rs₀) = ap (come order w (get_or order p 0)) e ∙ come_first order w p rs₀ in
      let back : p ≡ p + 1 - 1 = omega arith in
      let lies-there : map (function_in sizes area₀) ws ≡ kept (lies_in order (p + 1)) (map (function_in sizes area₀) rs₀) =
      ap (map (function_in sizes area₀)) e ∙ sym (kept_map (function_in sizes area₀) (lies_in order (p + 1)) rs₀) in
      record {
        new = [];
        is_new = sym (append-nil rs₀);
        records = ap (λ (ss : List (List ℕ)). rs₀ ++ laid_out sizes (p + 1) end₀ ss) first;
        ends = ap (λ (ss : List (List ℕ)). end₀ + all_cells sizes ss) first;
        tables = ap₂ (λ i (fs : List (Function C)). map (message K sizes order (get_or order i 0)) (split_from order w [] fs)) back lies-there;
        laid = eq_refl end₀;
        long = refl;
        before = refl;
        behind = refl;
        lies = rw e (lying order p rs₀);
        low = rw e (all_kept (λ (f : Placed). f.start + cells sizes f.scope ≤ end₀) (lies_at order (p + 1)) rs₀ roomy.below);
        inside = λ u h. roomy.inside u (names_kept (lies_at order (p + 1)) rs₀ u (rw e at h));
      }
    where
      eq_refl : (n : ℕ) → eqb n n ≡ true
      eq_refl n = grind (arith, nat_tests)

  module _ (rs ws : List Placed) (area : List C) (end : ℕ) (m : Making K sizes order w p rs₀ area₀ end₀ rs ws area end) (some : 0 < length ws) where
    abbrev v : ℕ
    v = get_or order p 0

    step : come order w v ws ≡ next_scope order w v ws ∷ come order w v (passed order w [] ws)
    step = come_step order w v ws some

    pub making_slot : Ready sizes order w p rs₀ → length rs < 384
    making_slot ready =
        omega (
          arith,
          ready.slots,
          ap length m.records,
          length-append rs (laid_out sizes (p + 1) end (come order w v ws)),
          laid_length (p + 1) end (come order w v ws),
          ap length step,
          length-append rs₀ (laid_out sizes (p + 1) end₀ (scopes_from order w (p + 1) (scopes_of rs₀))),
          laid_length (p + 1) end₀ (scopes_from order w (p + 1) (scopes_of rs₀)),
        )
      where
        laid_length : (q at : ℕ) (ss : List (List ℕ)) → length (laid_out sizes q at ss) ≡ length ss
        laid_length q at [] = refl
        laid_length q at (s ∷ ss) = ap suc (laid_length q (at + cells sizes s) ss)

    past : end₀ ≤ end
    past = omega (arith, laid_ends sizes end₀ end m.new m.laid)

    pub making_room : end + cells sizes (next_scope order w v ws) ≤ length area
    making_room = omega (arith, m.ends, ap (all_cells sizes) step, roomy.room, m.long)

    pub making_below : Below sizes end (taken order w [] ws)
    making_below =
        all_taken order w (λ (f : Placed). f.start + cells sizes f.scope ≤ end) [] ws tt
        (All-weaker (λ (f : Placed). f.start + cells sizes f.scope ≤ end₀) (λ (f : Placed). f.start + cells sizes f.scope ≤ end) (λ f h. omega (arith, past, h)) ws m.low)

    pub making_inside : (u : ℕ) → names (taken order w [] ws) u ≡ true → has (v ∷ next_scope order w v ws) u ≡ true
    making_inside u h =
        let there : has order u ≡ true = m.inside u (names_taken order w [] ws u h) in
        let named : has (kept (names (taken order w [] ws)) order) u ≡ true = has_kept (names (taken order w [] ws)) order u h there in
        elim (cases_Bool (eqb v u)) [
          | inl e ↦ or_left (eqb v u) (has (next_scope order w v ws) u) e
          | inr e ↦ or_right (eqb v u) (has (next_scope order w v ws) u) (has_kept (λ x. not (eqb x v)) (kept (names (taken order w [] ws)) order) u (grind (arith, nat_tests)) named)
        ]

    module _ (rs' ws' : List Placed) (scope : List ℕ) (area' : List C) (end' : ℕ) (s : scope ≡ next_scope order w v ws) (r : rs' ≡ rs ++ record { scope = scope; origin = p + 1; start = end } ∷ [])
        (e : ws' ≡ passed order w [] ws) (n : end' ≡ end + cells sizes scope)
        (is : area' ≡ take end area ++ (tabulate sizes scope (eliminated K sizes v (map (function_in sizes area) (taken order w [] ws))) (λ u. 0) ++ drop (end + cells sizes scope) area)) where
      abbrev members : List Placed
      members = taken order w [] ws

      abbrev here : Placed
      here = record { scope = scope; origin = p + 1; start = end }

      abbrev made_table : List C
      made_table = tabulate sizes scope (eliminated K sizes v (map (function_in sizes area) members)) (λ u. 0)

      table_long : length made_table ≡ cells sizes scope
      table_long = tabulate_length sizes scope (eliminated K sizes v (map (function_in sizes area) members)) (λ u. 0)

      room' : end + cells sizes scope ≤ length area
      room' = omega (arith, making_room, ap (cells sizes) s)

      same_members : map (function_in sizes area) members ≡ map (function_in sizes area₀) members
      same_members = below_same sizes area₀ area end₀ m.before members (all_taken order w (λ (f : Placed). f.start + cells sizes f.scope ≤ end₀) [] ws tt m.low)

      in_message : function_in sizes area' here ≡ message K sizes order v (map (function_in sizes area₀) members)
      in_message =
          ap (λ (t : List C). record { scope = scope; table = t }) (put_there area area' made_table end (cells sizes scope) table_long room' is)
          ∙ ap (λ (b : List (Function C)). record { scope = scope; table = tabulate sizes scope (eliminated K sizes v b) (λ u. 0) }) same_members
          ∙ ap (λ (x : List ℕ). record { scope = x; table = tabulate sizes x (eliminated K sizes v (map (function_in sizes area₀) members)) (λ u. 0) })
          (s ∙ ap (kept (λ u. not (eqb u v))) (sym (variables_names (function_in sizes area₀) (λ g. refl) order members)))

      old_tables : map (function_in sizes area') m.new ≡ map (function_in sizes area) m.new
      old_tables = same_below sizes area area' end (put_before area area' made_table end (cells sizes scope) table_long room' is) end₀ end m.new m.laid (omega arith)

      first : (xs : List Placed) → 0 < length xs → split_from order w [] (map (function_in sizes area₀) xs)
          ≡ map (function_in sizes area₀) (taken order w [] xs) ∷ split_from order w [] (map (function_in sizes area₀) (passed order w [] xs))
      first [] h = absurd (omega arith)
      first (x ∷ xs) h = first_fit (function_in sizes area₀) (λ g. refl) order w x xs

      pub making_goes : Making K sizes order w p rs₀ area₀ end₀ rs' ws' area' end'
      making_goes =
          let onward : come order w v ws ≡ scope ∷ come order w v ws' = step ∙ ap₂ (λ (x : List ℕ) (l : List Placed). x ∷ come order w v l) (sym s) (sym e) in
          let later : List (Function C) = map (message K sizes order v) (split_from order w [] (map (function_in sizes area₀) ws')) in
          let mine : Function C = message K sizes order v (map (function_in sizes area₀) members) in
          let split : map (message K sizes order v) (split_from order w [] (map (function_in sizes area₀) ws)) ≡ mine ∷ later =
          ap (map (message K sizes order v)) (first ws some) ∙ ap (λ (l : List Placed). mine ∷ map (message K sizes order v) (split_from order w [] (map (function_in sizes area₀) l))) (sym e) in
          record {
            new = m.new ++ here ∷ [];
            is_new = r ∙ ap (λ (l : List Placed). l ++ here ∷ []) m.is_new ∙ append_assoc rs₀ m.new (here ∷ []);
            records = ap₂ (λ (l : List Placed) (i : ℕ). l ++ laid_out sizes (p + 1) i (come order w v ws')) r n
                ∙ append_assoc rs (here ∷ []) (laid_out sizes (p + 1) (end + cells sizes scope) (come order w v ws'))
                ∙ ap (λ (ss : List (List ℕ)). rs ++ laid_out sizes (p + 1) end ss) (sym onward) ∙ m.records;
            ends = omega (arith, n, m.ends, ap (all_cells sizes) onward);
            tables = ap (λ (l : List (Function C)). l ++ later) (map_push (function_in sizes area') m.new here ∙ ap₂ (λ (l : List (Function C)) (x : Function C). l ++ x ∷ []) old_tables in_message)
                ∙ append_assoc (map (function_in sizes area) m.new) (mine ∷ []) later
                ∙ ap (λ (l : List (Function C)). map (function_in sizes area) m.new ++ l) (sym split) ∙ m.tables;
            laid = rw n (laid_push sizes end₀ end m.new here m.laid refl);
            long = put_long area area' made_table end (cells sizes scope) table_long room' is ∙ m.long;
            before = sym (take-take end₀ end area' past) ∙ ap (take end₀) (put_before area area' made_table end (cells sizes scope) table_long room' is) ∙ take-take end₀ end area past ∙ m.before;
            behind = rw n (put_behind area area' made_table end (cells sizes scope) table_long room' is ∙ sym (drop-drop (cells sizes scope) end area) ∙ ap (drop (cells sizes scope)) m.behind ∙ drop-drop (cells sizes scope) end area₀);
            lies = rw e (all_passed order w (λ (f : Placed). bucket_of order f.scope ≡ p + 1) [] ws m.lies);
            low = rw e (all_passed order w (λ (f : Placed). f.start + cells sizes f.scope ≤ end₀) [] ws m.low);
            inside = λ u h. m.inside u (names_passed order w [] ws u (rw e at h));
          }

  pub making_ends : (rs ws : List Placed) (area : List C) (end : ℕ) → Making K sizes order w p rs₀ area₀ end₀ rs ws area end → length ws ≡ 0 → Processed K sizes order w p rs₀ rs area₀ area end₀ end
  making_ends rs (f ∷ fs) area end m h = absurd (omega arith)
  making_ends rs [] area end m h =
      let all : List Placed = laid_out sizes (p + 1) end₀ (scopes_from order w (p + 1) (scopes_of rs₀)) in
      let whole : rs ≡ rs₀ ++ all = sym (append-nil rs) ∙ m.records in
      let same : m.new ≡ all = append_cancel_left rs₀ m.new all (sym m.is_new ∙ whole) in
      record {
        records = whole;
        ends = omega (arith, m.ends);
        tables = ap (map (function_in sizes area)) (sym same) ∙ sym (append-nil (map (function_in sizes area) m.new)) ∙ m.tables;
        long = m.long;
        before = m.before;
        behind = m.behind;
      }

-- the same said of equal variables, scopes and functions
pub inside_as : (v v' : ℕ) (scope scope' : List ℕ) (ms ms' : List Placed) → v' ≡ v → scope' ≡ scope → ms' ≡ ms → ((u : ℕ) → names ms u ≡ true → has (v ∷ scope) u ≡ true)
    → (u : ℕ) → names ms' u ≡ true → has (v' ∷ scope') u ≡ true
inside_as v v' scope scope' ms ms' e s m h u k = ap₂ (λ x (l : List ℕ). has (x ∷ l) u) e s ∙ h u (ap (λ (l : List Placed). names l u) (sym m) ∙ k)
