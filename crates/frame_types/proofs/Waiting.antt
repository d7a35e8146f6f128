-- Ordinary memory in the own works that waits for a flush which is not to be had.
use Rattle.std.proofs.Common.{◌≡◌, ℕ, ◌<◌, true, false, None, sym, ap, ◌∙◌, subst}
use Rattle.xp_words.specs.KindWords.{kind_write}
use Rattle.xp_words.specs.declared.kind.PageType.TheVariants.{Writable}
use Rattle.xp_words.specs.declared.place.Place.TheVariants.{Kind}
use Rattle.xp_board.specs.declared.step.Act.TheVariants.{Store}
use Rattle.xp_board.specs.declared.step.StepKind.TheVariants as kinds
use Rattle.xp_board.specs.Hands.{refs_to, work_on}
use Rattle.xp_board.specs.Told.{PortValue, is_telling, told_word}
use Rattle.step_maker.specs.Holds.{Same}
use Rattle.step_maker.specs.Moves.{Moves}
use Rattle.step_maker.specs.Plain.{Leaves, Words}
use Rattle.frame_words.specs.Refs.{MayPut}
use Rattle.kind_words.specs.Kinds.{partial_kind}
use Rattle.kind_words.proofs.KindHands.{apart_spares}
use Rattle.frame_types.specs.Plain.{left_waiting}
use Rattle.frame_types.specs.Taking.{LentBy}
use Rattle.frame_types.proofs.Entering.{lent_held}
use Rattle.frame_types.proofs.Serving.{stored_words}

-- ---- paused: the type count goes into the mark
pub kept_words : (v d : PortValue) (f x stamp : ℕ) → Moves v d (Kind f) (Store (kind_write (partial_kind Writable true true 0 stamp))) kinds.Kind None x → is_telling v ≡ true → Leaves d (left_waiting f true false stamp (told_word v))
kept_words v d f x stamp store telling q = ap (λ (m : Words). m q) (stored_words v d f x _ store telling)

-- ---- a frame that is to be ordinary memory
pub err_gives : (v u : PortValue) (f owner : ℕ) → LentBy f owner v.holdings → work_on f v.holdings.works ≡ None → Same v u → MayPut f u.holdings
err_gives v u f owner lent apart same =
    record {
      held = subst (λ rs. 0 < refs_to f rs) (sym (ap (λ (q : PortValue). q.holdings.refs) same)) (lent_held f owner v.holdings lent);
      spares = apart_spares f u.holdings (ap (λ (q : PortValue). work_on f q.holdings.works) same ∙ apart);
    }
