use Rattle.std.proofs.Common.{◌≡◌, Bool, true, false, refl, ◌∙◌}
use Rattle.xp_preempt.proofs.Consulting.{calm_answers_no}
use Rattle.xp_preempt.proofs.laws.a_calm_gate_answers_no.Goals as goal

pub returns-clause-no : goal.returns-clause-no
returns-clause-no c g h answers calm consulted = calm_answers_no g calm answers consulted.gives

pub returns-clause-stays : goal.returns-clause-stays
returns-clause-stays c g h answers calm consulted n = consulted.says n ∙ calm n

pub returns-clause-paced : goal.returns-clause-paced
returns-clause-paced c g h calm paced n = by_pace g.paces refl
  where
    by_pace : (b : Bool) → g.paces ≡ b → h.says n ≡ false
    by_pace true on = paced.says on n
    by_pace false off = paced.unpaced off n ∙ calm n
