-- A pin begins with a look at the frame under a reference of its own, and leaves all words as they were.
use Rattle.std.proofs.Common.{◌≡◌, ◌≢◌, ℕ, true, None, Ok, sym, ap, ◌∙◌}
use Rattle.std.proofs.Math.Path.{fun_ext}
use Rattle.xp_words.specs.Machine.{IsMachine}
use Rattle.xp_words.specs.declared.place.Place.TheVariants.{Kind, Refs}
use Rattle.xp_board.specs.declared.step.Act.TheVariants.{Load}
use Rattle.xp_board.specs.declared.step.StepKind.TheVariants as kinds
use Rattle.xp_board.specs.Told.{PortValue, is_telling, told_word}
use Rattle.step_maker.specs.Moves.{Came}
use Rattle.step_maker.specs.Plain.{Words}
use Rattle.step_maker.proofs.Coming.{came_trans, moves_came}
use Rattle.step_maker.proofs.Telling.{came_telling, load_tells, told_there}
use Rattle.step_maker.proofs.Visiting.{does_came}
use Rattle.frame_words.specs.Plain.{got, put, refer}
use Rattle.table_entries.specs.Acquiring.{GaveRef, GotRef}
use Rattle.table_entries.proofs.Shared.{gave_came}
use Rattle.mmuext_ops.specs.Course.{SawKind}
use Rattle.pin_laws.proofs.Lending.{back_again, got_there}

-- two places
pub kind_apart : (f : ℕ) → Kind f ≢ Refs f
kind_apart f e = cc

module _ (v a b : PortValue) (d f x : ℕ) (machine : IsMachine v.post.machine) (telling : is_telling v ≡ true) (ref : GotRef v a f d (Ok f)) (saw : SawKind a b f x) where
  none : refer v.post.machine d f (told_word v (Refs f)) ≡ None
  none = (ref.plain telling).0

  words_under : told_word a ≡ got f (told_word v)
  words_under = fun_ext (ref.plain telling).1

  telling_under : is_telling a ≡ true
  telling_under = came_telling v a (does_came v a _ ref.found) ∙ telling

  pub seen_word : x ≡ told_word v (Kind f)
  seen_word =
      sym (told_there a b (Kind f) Load kinds.Look None x saw telling_under) ∙ ap (λ (m : Words). m (Kind f)) words_under
      ∙ got_there v.post.machine (told_word v) d f machine none (Kind f) (kind_apart f)

  words_seen : told_word b ≡ got f (told_word v)
  words_seen = fun_ext (load_tells a b (Kind f) kinds.Look None x saw telling_under) ∙ words_under

  pub looked_came : Came v b
  looked_came = came_trans v a b (does_came v a _ ref.found) (moves_came a b _ _ _ _ _ saw)

  module _ (c : PortValue) (gave : GaveRef b c f) where
    pub back_came : Came v c
    back_came = came_trans v b c looked_came (gave_came b c f gave)

    pub words_back : told_word c ≡ told_word v
    words_back =
        fun_ext (gave.plain (came_telling v b looked_came ∙ telling))
        ∙ ap (put f) words_seen ∙ fun_ext (back_again v.post.machine (told_word v) d f machine none)
