-- All buckets, from the last down.
use Rattle.std.proofs.Common.{◌≡◌, ℕ, suc, ◌+◌, ◌-◌, ◌*◌, ◌<◌, ◌≤◌, true, eqb, ltb, leb, List, [], ◌∷◌, ◌++◌, map, length, get_or, take, drop, set, sym, refl, ap, ◌∙◌, ap₂, inl, inr, suc-mul, arith}
use Rattle.std.specs.List.{AllByRecursion}
use Rattle.std.proofs.lemmas.List.{length-map, length-append, append_assoc, append-nil, map-append, map-id, take-take, drop-drop, get_or-set_same, get_or-set_other}
use Rattle.std.proofs.ByRecursion.{All-append, All-weaker}
use Rattle.std.proofs.lemmas.Bool.{and_parts, eqb-true, cases_eq, cases_Bool, or_cases, leb-true, ltb-true}
use Rattle.std.proofs.lemmas.Bool.Decides.{nat_tests}
use Rattle.costs.specs.Structures.{Structure}
use Rattle.variables.specs.Lists.{has, known, distinct}
use Rattle.variables.specs.Assignments.{cells}
use Rattle.problems.specs.Records.{Placed, function_in, laid_from, all_proper}
use Rattle.variables.specs.Rules.{is_order, proper}
use Rattle.problems.proofs.Tables.{same_below}
use Rattle.floors.specs.ByNumber.{bucket_messages}
use Rattle.floors.specs.Shapes.{Distinct, Known}
use Rattle.floors.specs.Covers.{at_most}
use Rattle.buckets.specs.Going.{Able, Spacious, Gone}
use Rattle.buckets.specs.Made.{bucket_made, scopes_from, scopes_made, all_cells, laid_out, placed_made}
use Rattle.buckets.specs.Processed.{scopes_of, Ready, Roomy, Processed}
use Rattle.buckets.proofs.Filters.{map_map}
use Rattle.buckets.proofs.Bounds.{lengths, lengths_few, made_few}
use Rattle.buckets.proofs.Propers.{is_distinct}
use Rattle.buckets.proofs.Making.{below_same}
use Rattle.buckets.proofs.Coming.{filed}
use Rattle.buckets.specs.Laying.{In, placed_scopes, placed_length, placed_laid, scopes_longer, cells_append, laid_below, made_inside, names_inside}

is_known : (n : ℕ) (vs : List ℕ) → known n vs ≡ true → (v : ℕ) → has vs v ≡ true → v < n
is_known n [] h v k = grind arith
is_known n (u ∷ vs) h v k = let ih = is_known n vs in grind (arith, nat_tests)

all_known : (n : ℕ) (vs : List ℕ) → known n vs ≡ true → Known n vs
all_known n [] h = tt
all_known n (v ∷ vs) h = let both = and_parts (ltb v n) (known n vs) h in (ltb-true v n both.0, all_known n vs both.1)

-- an order names every known variable
order_has : (n : ℕ) (order : List ℕ) → is_order n order ≡ true → (v : ℕ) → v < n → has order v ≡ true
order_has n order o v l =
    let parts = and_parts (eqb (length order) n) _ o in
    let more = and_parts (known n order) (distinct order) parts.1 in
    elim (cases_Bool (has order v)) [
      | inl e ↦ e
      | inr e ↦ absurd (omega (arith, at_most n (v ∷ order) (l, all_known n order more.0) (e, is_distinct order more.1), eqb-true (length order) n parts.0))
    ]

module _ (sizes order : List ℕ) (w : ℕ) (fs : List Placed) (able : Able sizes order w fs) where
  abbrev n : ℕ
  n = length order

  abbrev ss : List (List ℕ)
  ss = scopes_of fs

  pub order_is : 0 < n → is_order (length sizes) order ≡ true
  order_is some = elim (or_cases (eqb (length order) 0) (is_order (length sizes) order) able.ordered) [ inl e ↦ absurd (omega (arith, eqb-true (length order) 0 e)) | inr e ↦ e ]

  apart : 0 < n → Distinct order
  apart some = is_distinct order (and_parts (known (length sizes) order) (distinct order) (and_parts (eqb (length order) (length sizes)) _ (order_is some)).1).1

  few : (gs : List Placed) → all_proper (length sizes) gs ≡ true → AllByRecursion (λ s. length s ≤ 5) (scopes_of gs)
  few [] h = tt
  few (g ∷ gs) h =
      let both = and_parts (proper (length sizes) g.scope) _ h in
      (leb-true (length g.scope) 5 (and_parts (leb (length g.scope) 5) _ both.0).0, few gs both.1)

  covered : 0 < n → (gs : List Placed) → all_proper (length sizes) gs ≡ true → AllByRecursion (λ s. (u : ℕ) → has s u ≡ true → has order u ≡ true) (scopes_of gs)
  covered some [] h = tt
  covered some (g ∷ gs) h =
      let both = and_parts (proper (length sizes) g.scope) _ h in
      let know = (and_parts (known (length sizes) g.scope) (distinct g.scope) (and_parts (leb (length g.scope) 5) _ both.0).1).0 in
      (λ u k. order_has (length sizes) order (order_is some) u (is_known (length sizes) g.scope know u k), covered some gs both.1)

  total_few : lengths ss ≤ 320
  total_few = omega (arith, lengths_few ss (few fs able.scoped), length-map fs (λ (f : Placed). f.scope), able.count)

  module _ (i : ℕ) (some : 0 < i) (l : i ≤ n) where
    next_k : n - (i - 1) ≡ suc (n - i)
    next_k = omega arith

    number : n - (n - i) ≡ i - 1 + 1
    number = omega arith

    scopes_next : scopes_made order w ss (n - (i - 1)) ≡ scopes_made order w ss (n - i) ++ scopes_from order w (i - 1 + 1) (ss ++ scopes_made order w ss (n - i))
    scopes_next = ap (scopes_made order w ss) next_k ∙ ap (λ q. scopes_made order w ss (n - i) ++ scopes_from order w q (ss ++ scopes_made order w ss (n - i))) number

    module _ (rs : List Placed) (is : scopes_of rs ≡ ss ++ scopes_made order w ss (n - i)) where
      from_rs : scopes_from order w (i - 1 + 1) (scopes_of rs) ≡ scopes_from order w (i - 1 + 1) (ss ++ scopes_made order w ss (n - i))
      from_rs = ap (scopes_from order w (i - 1 + 1)) is

      pub scopes_on : scopes_made order w ss (n - (i - 1)) ≡ scopes_made order w ss (n - i) ++ scopes_from order w (i - 1 + 1) (scopes_of rs)
      scopes_on = scopes_next ∙ ap (λ (l : List (List ℕ)). scopes_made order w ss (n - i) ++ l) (sym from_rs)

      pub walk_ready : Ready sizes order w (i - 1) rs
      walk_ready = record {
        ordered = order_is (omega arith);
        narrow = able.narrow;
        number = omega arith;
        slots = omega (
          arith,
          length-map rs (λ (f : Placed). f.scope),
          ap length is,
          length-append ss (scopes_made order w ss (n - i)),
          length-map fs (λ (f : Placed). f.scope),
          able.count,
          ap length scopes_on,
          length-append (scopes_made order w ss (n - i)) (scopes_from order w (i - 1 + 1) (scopes_of rs)),
          made_few order (apart (omega arith)) w ss (n - (i - 1)) (omega arith),
          total_few,
        );
      }

-- counting

pub record Tally (sizes order : List ℕ) (w : ℕ) (fs : List Placed) (i : ℕ) (rs : List Placed) (cells : ℕ) : Type 0 where
  pub scopes : scopes_of rs ≡ scopes_of fs ++ scopes_made order w (scopes_of fs) (length order - i)
  pub counted : cells ≡ all_cells sizes (scopes_made order w (scopes_of fs) (length order - i))
  pub small : cells + i * 402653184 ≤ length order * 402653184

module _ (sizes order : List ℕ) (w : ℕ) (fs : List Placed) where
  pub tally_goes : Able sizes order w fs → (i : ℕ) (rs rs' : List Placed) (cells more cells' : ℕ) → 0 < i → i ≤ length order → Tally sizes order w fs i rs cells
      → rs' ≡ rs ++ map (filed (i - 1)) (scopes_from order w (i - 1 + 1) (scopes_of rs)) → more ≡ all_cells sizes (scopes_from order w (i - 1 + 1) (scopes_of rs)) → more ≤ 402653184 → cells' ≡ cells + more
      → Tally sizes order w fs (i - 1) rs' cells'
  tally_goes able i rs rs' cells more cells' some l t r m low c =
      let on = scopes_on sizes order w fs able i some l rs t.scopes in
      let new : List (List ℕ) = scopes_from order w (i - 1 + 1) (scopes_of rs) in
      let made : List (List ℕ) = scopes_made order w (scopes_of fs) (length order - i) in
      let filed-scopes : scopes_of (map (filed (i - 1)) new) ≡ new = map_map (λ (f : Placed). f.scope) (filed (i - 1)) new ∙ map-id new in
      let back : i ≡ suc (i - 1) = omega arith in
      let one : i * 402653184 ≡ (i - 1) * 402653184 + 402653184 = ap (λ j. j * 402653184) back ∙ suc-mul (i - 1) 402653184 in
      record {
        scopes = ap scopes_of r ∙ map-append (λ (f : Placed). f.scope) rs (map (filed (i - 1)) new) ∙ ap₂ ◌++◌ t.scopes filed-scopes
            ∙ append_assoc (scopes_of fs) made new ∙ ap (λ (x : List (List ℕ)). scopes_of fs ++ x) (sym on);
        counted = omega (arith, c, t.counted, m, ap (all_cells sizes) on, cells_append sizes made new);
        small = omega (arith, t.small, c, low, one);
      }

-- making

module _ {C : Type 0} (K : Structure C) (sizes order : List ℕ) (w : ℕ) (fs : List Placed) (area₀ : List C) (at : ℕ) (able : Able sizes order w fs) (spacious : Spacious sizes order w fs at (length area₀)) where
  abbrev Scopes : ℕ → List (List ℕ)
  Scopes k = scopes_made order w (scopes_of fs) k

  abbrev Placeds : ℕ → List Placed
  Placeds k = placed_made sizes order w (scopes_of fs) at k

  abbrev N : ℕ
  N = length order

  pub gone_begins : (i : ℕ) (reach : List ℕ) → i ≡ N → get_or reach i 0 ≡ length fs → Gone K sizes order w fs area₀ at i fs reach area₀ at
  gone_begins i reach e r =
      let z : N - i ≡ 0 = omega arith in
      record {
        records = sym (append-nil fs) ∙ ap (λ k. fs ++ Placeds k) (sym z);
        tables = ap (λ k. map (function_in sizes area₀) (Placeds k)) z ∙ ap (bucket_made K sizes order w (map (function_in sizes area₀) fs)) (sym z);
        ends = omega (arith, ap (λ k. all_cells sizes (Scopes k)) z);
        reached = λ p l h. let same : p ≡ i = omega arith in rw same (omega (arith, r, ap (λ k. length (Scopes k)) z));
        long = refl;
        before = refl;
        behind = refl;
      }

  module _ (i : ℕ) (some : 0 < i) (l : i ≤ N) (rs : List Placed) (reach : List ℕ) (area : List C) (end : ℕ) (gone : Gone K sizes order w fs area₀ at i rs reach area end) where
    abbrev k : ℕ
    k = N - i

    pub gone_scopes : scopes_of rs ≡ scopes_of fs ++ Scopes k
    gone_scopes = ap scopes_of gone.records ∙ map-append (λ (f : Placed). f.scope) fs (Placeds k) ∙ ap (λ (x : List (List ℕ)). scopes_of fs ++ x) (placed_scopes sizes order w (scopes_of fs) at k)

    new : List (List ℕ)
    new = scopes_from order w (i - 1 + 1) (scopes_of rs)

    on : Scopes (N - (i - 1)) ≡ Scopes k ++ scopes_from order w (i - 1 + 1) (scopes_of rs)
    on = scopes_on sizes order w fs able i some l rs gone_scopes

    laid : laid_from sizes at (Placeds k) end ≡ true
    laid = rw gone.ends (placed_laid sizes order w (scopes_of fs) at k)

    pub gone_roomy : Roomy sizes order w (i - 1) rs end (length area)
    gone_roomy = record {
      inside = names_inside sizes order w (scopes_of fs) at rs
          (rw gone_scopes (All-append (In sizes order w (scopes_of fs) at) (scopes_of fs) (Scopes k) (covered sizes order w fs able (omega arith) fs able.scoped) (made_inside sizes order w (scopes_of fs) at k)));
      below = rw gone.records
          (All-append (λ (f : Placed). f.start + cells sizes f.scope ≤ end) fs (Placeds k)
          (All-weaker (λ (f : Placed). f.start + cells sizes f.scope ≤ at) (λ (f : Placed). f.start + cells sizes f.scope ≤ end) (λ f h. omega (arith, h, gone.ends)) fs spacious.below)
          (laid_below sizes at end (Placeds k) laid));
      room = omega (arith, gone.ends, gone.long, spacious.room, ap (all_cells sizes) on, cells_append sizes (Scopes k) (scopes_from order w (i - 1 + 1) (scopes_of rs)), scopes_longer sizes order w (scopes_of fs) at (N - (i - 1)) N (omega arith));
    }

    module _ (rs' : List Placed) (area' : List C) (end' : ℕ) (done : Processed K sizes order w (i - 1) rs rs' area area' end end') where
      next : N - (i - 1) ≡ suc k
      next = omega arith

      bucket : N - k ≡ i - 1 + 1
      bucket = omega arith

      abbrev fresh : List Placed
      fresh = laid_out sizes (i - 1 + 1) end (scopes_from order w (i - 1 + 1) (scopes_of rs))

      placed_on : Placeds (N - (i - 1)) ≡ Placeds k ++ fresh
      placed_on =
          ap Placeds next
          ∙ ap₂ (λ q (e : ℕ). Placeds k ++ laid_out sizes q e (scopes_from order w q (scopes_of fs ++ Scopes k))) bucket (sym gone.ends)
          ∙ ap (λ (x : List (List ℕ)). Placeds k ++ laid_out sizes (i - 1 + 1) end (scopes_from order w (i - 1 + 1) x)) (sym gone_scopes)

      functions : map (function_in sizes area) rs ≡ map (function_in sizes area₀) fs ++ bucket_made K sizes order w (map (function_in sizes area₀) fs) k
      functions =
          ap (map (function_in sizes area)) gone.records ∙ map-append (function_in sizes area) fs (Placeds k)
          ∙ ap₂ ◌++◌ (below_same sizes area₀ area at gone.before fs spacious.below) gone.tables

      whole : rs' ≡ fs ++ Placeds (N - (i - 1))
      whole =
          done.records ∙ ap (λ (x : List Placed). x ++ fresh) gone.records ∙ append_assoc fs (Placeds k) fresh ∙ ap (λ (x : List Placed). fs ++ x) (sym placed_on)

      past : at ≤ end
      past = omega (arith, gone.ends)

      pub gone_goes : (reach' : List ℕ) → length reach ≡ 33 → i - 1 < 33 → reach' ≡ set reach (i - 1) (length rs') → Gone K sizes order w fs area₀ at (i - 1) rs' reach' area' end'
      gone_goes reach' long low is =
          let more : List (List ℕ) = scopes_from order w (i - 1 + 1) (scopes_of rs) in
          record {
            records = whole;
            tables = ap (map (function_in sizes area')) placed_on ∙ map-append (function_in sizes area') (Placeds k) fresh
                ∙ ap₂ ◌++◌ (same_below sizes area area' end done.before at end (Placeds k) laid (omega arith) ∙ gone.tables) (done.tables ∙ ap (bucket_messages K sizes order w (i - 1 + 1)) functions)
                ∙ ap (λ q. bucket_made K sizes order w (map (function_in sizes area₀) fs) k ++ bucket_messages K sizes order w q (map (function_in sizes area₀) fs ++ bucket_made K sizes order w (map (function_in sizes area₀) fs) k)) (sym bucket)
                ∙ ap (bucket_made K sizes order w (map (function_in sizes area₀) fs)) (sym next);
            ends = omega (arith, done.ends, gone.ends, ap (all_cells sizes) on, cells_append sizes (Scopes k) more);
            reached = λ p h m. elim (cases_eq p (i - 1)) [
              | inl e ↦ rw (is, e)
                  (get_or-set_same reach (i - 1) (length rs') 0 (omega arith) ∙ ap length whole ∙ length-append fs (Placeds (N - (i - 1))) ∙ omega (arith, placed_length sizes order w (scopes_of fs) at (N - (i - 1))))
              | inr ne ↦ rw is (get_or-set_other reach (i - 1) p (length rs') 0 ne ∙ gone.reached p (omega arith) m)
            ];
            long = done.long ∙ gone.long;
            before = sym (take-take at end area' past) ∙ ap (take at) done.before ∙ take-take at end area past ∙ gone.before;
            behind = done.behind ∙ behind_on;
          }
        where
          behind_on : drop end' area ≡ drop end' area₀
          behind_on = rw done.ends (sym (drop-drop (all_cells sizes (scopes_from order w (i - 1 + 1) (scopes_of rs))) end area) ∙ ap (drop (all_cells sizes (scopes_from order w (i - 1 + 1) (scopes_of rs)))) gone.behind ∙ drop-drop (all_cells sizes (scopes_from order w (i - 1 + 1) (scopes_of rs))) end area₀)
