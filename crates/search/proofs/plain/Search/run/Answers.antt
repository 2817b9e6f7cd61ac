use Rattle.std.proofs.Common.{◌≡◌, true, false, sym, arith}
use Rattle.variables.specs.Records.{sizes_of, order_of}
use Rattle.problems.specs.Outlines.{outline, problem}
use Rattle.search.specs.Searches.{ended, ran}
use Rattle.search.specs.Places.{spot_of, search_of}
use Rattle.search.proofs.Turns.{again, stopped, spent}
use Rattle.search.proofs.plain.Search.run.Goals as goal

pub returns-then-ended : goal.returns-then-ended
returns-then-ended g c =
    let K = g.C.Cost.structure in
    let sh = c.args.shape.now in
    let p = problem (outline sh) c.args.area.now in
    let floor = g.S.FloorSource.rules.meaning c.args.source.now p in
    let s = c.loop-visits.self in
    let ends : ended (sizes_of sh.sizes) (order_of sh.order) (spot_of sh.order s.place) ≡ true = sym c.if-ended.ensures in
    record {
      few = c.loop-visits.auto.visits-end;
      runs = λ filled formed st.
          stopped K p floor (ran K p floor c.args.budget (search_of sh.order c.args.self.now)) c.args.budget c.loop-visits.visits (search_of sh.order s)
          (c.loop-visits.invariant.1 filled formed st) ends;
      stays = c.loop-visits.invariant.0;
    }

pub loop-visits-preserved : goal.loop-visits-preserved
loop-visits-preserved g c =
    let K = g.C.Cost.structure in
    let sh = c.args.shape.now in
    let p = problem (outline sh) c.args.area.now in
    let floor = g.S.FloorSource.rules.meaning c.args.source.now p in
    let s = c.loop-visits.self in
    let goes : ended (sizes_of sh.sizes) (order_of sh.order) (spot_of sh.order s.place) ≡ false = sym c.if-ended.ensures in (
      λ st. c.visit.ensures.stays (c.loop-visits.invariant.0 st) goes,
      λ filled formed st.
          again K p floor (ran K p floor c.args.budget (search_of sh.order c.args.self.now)) c.args.budget c.loop-visits.visits (search_of sh.order s)
          (c.loop-visits.invariant.1 filled formed st) c.loop-visits-test.true goes (search_of sh.order c.visit.new.self)
          (c.visit.ensures.visits filled formed (c.loop-visits.invariant.0 st) goes),
    )

pub returns : goal.returns
returns g c =
    let K = g.C.Cost.structure in
    let sh = c.args.shape.now in
    let p = problem (outline sh) c.args.area.now in
    let floor = g.S.FloorSource.rules.meaning c.args.source.now p in
    let s = c.loop-visits.self in
    record {
      few = omega arith;
      runs = λ filled formed st.
          spent K p floor (ran K p floor c.args.budget (search_of sh.order c.args.self.now)) c.args.budget c.loop-visits.visits (search_of sh.order s)
          (c.loop-visits.invariant.1 filled formed st) (omega (arith, c.loop-visits-test.false, c.loop-visits.auto.visits-end));
      stays = c.loop-visits.invariant.0;
    }
