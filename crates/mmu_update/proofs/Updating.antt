-- Elements that write no word of a frame: a machine-to-physical word, and those that their numbers alone refuse.
use Rattle.std.proofs.Common.{◌≡◌, ℕ, false, [], None, Result, Ok, Err, IfErr, refl, sym, ap, subst}
use Rattle.xp_words.specs.declared.reply.Pause.TheVariants as pauses
use Rattle.xp_words.specs.declared.reply.Refusal.TheVariants.{BadCommand, BadRange, CountFull, NoFrame, WrongOwner}
use Rattle.xp_words.specs.declared.reply.Stop.{Stop}
use Rattle.xp_words.specs.declared.reply.Stop.TheVariants.{Refused, Paused}
use Rattle.xp_board.specs.Told.{PortValue}
use Rattle.step_maker.specs.Holds.{Same, quiet}
use Rattle.step_maker.specs.Answers.{Serves, Stops}
use Rattle.step_maker.specs.Asked.{of_frame}
use Rattle.step_maker.proofs.Coming.{came_self}
use Rattle.step_maker.proofs.Piecing.{serves_came}
use Rattle.step_maker.specs.Visits.{Does}
use Rattle.foreign_map.specs.declared.owners.Owners.{Owners}
use Rattle.level_release.specs.Asking.{is_due_answer, is_due_stop}
use Rattle.frame_words.specs.Refs.{IsRefStop}
use Rattle.entry_exchange.proofs.PageKinds.{gets_kind}
use Rattle.m2p_map.specs.Found.{SetFound}
use Rattle.m2p_map.specs.Maps.{TwinSet, deeds_of}
use Rattle.mmu_update.specs.Course.{UpdatesBy}
use Rattle.mmu_update.specs.Elements as elements
use Rattle.mmu_update.specs.Elements.{IsMapStop, IsUpdateStop, LeavesUpdate, ServesUpdate, update_request}
use Rattle.mmu_update.specs.declared.element.Element.{Element}
use Rattle.mmu_update.specs.declared.element.Element.TheVariants.{Misaligned, SetM2p, Unknown}
use Rattle.xp_preempt.specs.Gates.{Gate}
use Rattle.xp_preempt.proofs.Consulting.{past_none}
use Rattle.mmu_update.proofs.Holding.{leaves_same}
use Rattle.mmu_update.proofs.Numbers.{no_step}
use Rattle.mmu_update.proofs.Numbers as numbers

-- ---- a machine-to-physical word
map_stop : (e : Stop) → IsRefStop e → IsMapStop e × (is_due_stop e ≡ false)
map_stop (Refused (NoFrame f)) is = (tt, refl)
map_stop (Refused (WrongOwner f found)) is = (tt, refl)
map_stop (Refused (CountFull f found)) is = (tt, refl)
map_stop (Paused (pauses.Lost place expected found)) is = (tt, refl)
map_stop _ is = absurd is

module _ (v w : PortValue) (o : Owners) (e : Element) (f gpfn : ℕ) (is : e ≡ SetM2p f gpfn) where
  map_kind : (answer : Result (Unit {0}) Stop) → SetFound v w f o.frames gpfn answer → IfErr answer IsMapStop × (is_due_answer answer ≡ false)
  unfolding Does
  map_kind (Ok done) a = (tt, refl)
  map_kind (Err stop) a = map_stop stop (gets_kind v.post.machine f o.frames stop _ a.2)

  pub map_serves : (answer : Result (Unit {0}) Stop) → Serves v w (of_frame f o.frames None) (deeds_of v.post.machine f gpfn answer) → ServesUpdate v w o e answer
  map_serves answer a = subst (λ k. ServesUpdate v w o k answer) (sym is) (deeds_of v.post.machine f gpfn answer, elements.mapped f gpfn answer, a)

  pub map_kinds : (answer : Result (Unit {0}) Stop) → SetFound v w f o.frames gpfn answer → IfErr answer (IsUpdateStop e)
  map_kinds answer a = subst (λ k. IfErr answer (IsUpdateStop k)) (sym is) (map_kind answer a).0

  pub map_course : {g : Gate} (answer : Result (Unit {0}) Stop) → SetFound v w f o.frames gpfn answer → TwinSet v w f o.frames gpfn answer → UpdatesBy v w o e g g answer
  map_course {g} answer found plain = subst (λ k. UpdatesBy v w o k g g answer) (sym is) (past_none (map_kind answer found).1 (refl, found, plain))

pub map_hand : (v w : PortValue) → Same v w → LeavesUpdate v w
map_hand v w same = leaves_same v w (ap quiet same)

-- ---- one that its numbers refuse
pub same_hand : (v : PortValue) → LeavesUpdate v v
same_hand v = leaves_same v v refl

module _ (v : PortValue) (o : Owners) (e : Element) where
  module _ (is : e ≡ Misaligned) where
    pub misaligned_serves : ServesUpdate v v o e (Err (Refused BadRange))
    misaligned_serves = subst (λ k. ServesUpdate v v o k (Err (Refused BadRange))) (sym is) ([], elements.misaligned (Err (Refused BadRange)), no_step v BadRange)

    pub misaligned_stops : Stops v v (update_request o e (Err (Refused BadRange))) (Refused BadRange)
    misaligned_stops = subst (λ k. Stops v v (update_request o k (Err (Refused BadRange))) (Refused BadRange)) (sym is) (numbers.misaligned v)

    pub misaligned_course : {g : Gate} → UpdatesBy v v o e g g (Err (Refused BadRange))
    misaligned_course {g} = subst (λ k. UpdatesBy v v o k g g (Err (Refused BadRange))) (sym is) (past_none refl (refl, refl, refl))

  module _ (is : e ≡ Unknown) where
    pub unknown_serves : ServesUpdate v v o e (Err (Refused BadCommand))
    unknown_serves = subst (λ k. ServesUpdate v v o k (Err (Refused BadCommand))) (sym is) ([], elements.unknown (Err (Refused BadCommand)), no_step v BadCommand)

    pub unknown_stops : Stops v v (update_request o e (Err (Refused BadCommand))) (Refused BadCommand)
    unknown_stops = subst (λ k. Stops v v (update_request o k (Err (Refused BadCommand))) (Refused BadCommand)) (sym is) (numbers.unknown v)

    pub unknown_course : {g : Gate} → UpdatesBy v v o e g g (Err (Refused BadCommand))
    unknown_course {g} = subst (λ k. UpdatesBy v v o k g g (Err (Refused BadCommand))) (sym is) (past_none refl (refl, refl, refl))

-- what the search needs at the elements that write no word of a frame
pub ruleset plain_ways = (came_self, serves_came, same_hand, map_hand, misaligned_serves, unknown_serves, misaligned_stops, unknown_stops)
