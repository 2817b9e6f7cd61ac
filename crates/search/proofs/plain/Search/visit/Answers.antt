use Rattle.std.proofs.Common.{◌≡◌, length, sym, refl, ap, ◌∙◌, subst}
use Rattle.variables.specs.declared.plain.Order.{Order}
use Rattle.variables.specs.Records.{order_of, Longer}
use Rattle.problems.specs.Outlines.{outline, problem}
use Rattle.search.specs.declared.plain.Search.{Search as Bounded}
use Rattle.search.specs.Places.{search_of, Backs}
use Rattle.search.proofs.Visits.{tried_low, tried_fits}
use Rattle.search.proofs.Leads.{now, trying, stays_deeper, stays_backed, stays_noted, visits_deeper, visits_pruned, visits_noted}
use Rattle.search.proofs.plain.Search.visit.Goals as goal
use Rattle.search.proofs.plain.Search.visit.Goals.{then-len-variables, else-len-variables+else-promises}

pub returns-then-promises : goal.returns-then-promises
returns-then-promises g c =
    let K = g.C.Cost.structure in
    let sh = c.args.shape.now in
    let b = c.args.self.now in
    let area = c.args.area.now in
    let p = problem (outline sh) area in
    let tried = c.push.new.self in
    let longer = subst (λ (o : Order). Longer o b.place.prefix tried b.place.next) c.along.ensures c.if-not-push.ensures.after in
    let partial : tried.len ≡ length (order_of sh.order) → ⊥ = λ e. c.if-len-variables.false (c.len.ensures ∙ e ∙ sym (ap length (c.variables.ensures ∙ ap order_of c.along-2.ensures))) in
    record {
      visits = λ filled formed st goes.
          let ready = now sh b.place tried longer st goes in
          visits_deeper K sh area b tried longer st goes (g.S.FloorSource.rules.meaning c.args.source.now p) partial
          (sym (c.if-promises.ensures (tried_low sh b.place tried longer ready) filled formed (tried_fits sh b.place tried longer ready area)));
      stays = λ st goes. stays_deeper sh b.place tried longer st goes partial;
    }

pub returns : goal.returns
returns g c =
    let K = g.C.Cost.structure in
    let sh = c.args.shape.now in
    let b = c.args.self.now in
    let area = c.args.area.now in
    let p = problem (outline sh) area in
    let floor = g.S.FloorSource.rules.meaning c.args.source.now p in
    let tried = c.push.new.self in
    let a = c.back.new.self in
    let longer = subst (λ (o : Order). Longer o b.place.prefix tried b.place.next) c.along.ensures c.if-not-push.ensures.after in
    let backs : Backs sh.order sh.sizes c.if-len-variables.self.place a =
    c.back.ensures in
    let long = ap length (c.variables.ensures ∙ ap order_of c.along-2.ensures) in
    elim c.if-len-variables.branch [
      | then-len-variables w ↦
          let note = w.self-is ∙ w.note.ensures in
          let backs' = subst (λ (m : Bounded g.row.C.Denot). Backs sh.order sh.sizes m.place a) note backs in
          record {
            visits = λ filled formed st goes.
                visits_noted K sh area b tried longer st goes floor (sym c.len.ensures ∙ w.if-len-variables.true ∙ long) formed a backs'
                ∙ ap (λ (m : Bounded g.row.C.Denot). search_of sh.order (record { place = a; bar = m.bar })) (sym note);
            stays = λ st goes. stays_noted K sh area b tried longer st goes a backs';
          }
      | else-len-variables+else-promises w ↦
          let backs' = subst (λ (m : Bounded g.row.C.Denot). Backs sh.order sh.sizes m.place a) w.self-is backs in
          record {
            visits = λ filled formed st goes.
                let ready = now sh b.place tried longer st goes in
                visits_pruned K sh area b tried longer st goes floor (λ e. w.if-len-variables.false (c.len.ensures ∙ e ∙ sym long))
                (sym (w.if-promises.ensures (tried_low sh b.place tried longer ready) filled formed (tried_fits sh b.place tried longer ready area))) a backs'
                ∙ ap (λ (m : Bounded g.row.C.Denot). search_of sh.order (record { place = a; bar = m.bar })) (sym w.self-is);
            stays = λ st goes. stays_backed sh b.place tried longer st goes (trying K sh area b tried longer st goes).place a refl backs';
          }
    ]
