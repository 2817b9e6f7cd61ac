-- What the sources mean.
use Rattle.std.specs.Prelude.{◌+◌, ◌≤◌, min, true, cond, ◌&&◌}
use Rattle.costs.specs.Structures.{Structure}
use Rattle.floors.specs.Rules.{Rules, frame}
use Rattle.foreign.specs.declared.plain.Neutral.{Neutral}
use Rattle.foreign.specs.declared.plain.Greater.{Greater}

-- Neutral suits every job, has no cells, and notes nothing
abbrev pub neutral_rules : {C : Type 0} → Structure C → Rules C Neutral
neutral_rules K = record {
  suits = λ s f. true;
  room = λ s f. 0;
  meaning = λ s p x. K.neutral;
  filled = λ s o area at. Unit {0};
}

abbrev pub greater_of : {C : Type 0} → Structure C → C → C → C
greater_of K a b = cond (K.at_most a b) b a

-- both suit; the cells of the second lie behind those of the first, all at places that are numbers of 64 bits
abbrev pub greater_rules : {C A B : Type 0} → Structure C → Rules C A → Rules C B → Rules C (Greater A B)
greater_rules K R S = record {
  suits = λ s f. R.suits s.first f && S.suits s.second f;
  room = λ s f. min (R.room s.first f + S.room s.second f) 18446744073709551615;
  meaning = λ s p x. greater_of K (R.meaning s.first p x) (S.meaning s.second p x);
  filled = λ s o area at.
      (at + (R.room s.first (frame o) + S.room s.second (frame o)) ≤ 18446744073709551615) × R.filled s.first o area at × S.filled s.second o area (at + R.room s.first (frame o));
}
