-- An element whose acquisition is refused, or paused by the gate.
use Rattle.std.proofs.Common.{◌≡◌, ◌⊎◌, ℕ, Some, Result, Err, List, refl, sym, ap, ◌∙◌, subst, inl, inr}
use Rattle.xp_words.specs.declared.reply.Pause.TheVariants.{Due}
use Rattle.xp_words.specs.declared.reply.Refusal.{Refusal}
use Rattle.xp_words.specs.declared.reply.Stop.{Stop}
use Rattle.xp_words.specs.declared.reply.Stop.TheVariants.{Paused}
use Rattle.xp_board.specs.Told.{Post, PortValue, told_word}
use Rattle.step_maker.specs.Answers.{Deed, Serves}
use Rattle.step_maker.specs.Asked.{Request}
use Rattle.step_maker.specs.Holds.{FlushedSame, Rests}
use Rattle.step_maker.proofs.Coming.{came_post}
use Rattle.step_maker.proofs.Piecing.{serves_came}
use Rattle.table_bases.specs.Asking.{NamesInFirst}
use Rattle.table_law.specs.Alone.{PlainOutcome, alone}
use Rattle.table_law.specs.Plain.{Describes, Plain}
use Rattle.course_laws.proofs.Awaiting.{AloneStays}
use Rattle.release_laws.specs.Pauses.{IsLeft}
use Rattle.refusal_laws.specs.Refusals.{ComesTo, IsRefusedAs}
use Rattle.refusal_laws.specs.Refusals as refusals
use Rattle.script_law.specs.Values.{Solo, Frames, Outcome, behind, behind_by, with_frames}
use Rattle.solo_ports.specs.Coming.{IsRefusedSo}
use Rattle.solo_ports.specs.Standing.{IsSettled, Owes, Stands, a_release, nothing}
use Rattle.solo_ports.proofs.Unkept.{unkept_alone}
use Rattle.solo_pins.proofs.Standing.{IsMild, SetsNothing, second_same, stands_stay}

-- ---- the answer of a call that stops
abbrev pub as_call : Stop → Result ℕ Stop
as_call e = Err e

pub is_due : (e : Stop) → as_call e ≡ as_call (Paused Due) → e ≡ Paused Due
is_due e is = cc

-- ---- the second old word, whatever the first one names then
pub second_by : (v w : PortValue) (f : ℕ) → IsSettled v → FlushedSame v w ⊎ NamesInFirst v w f → w.holdings.old1 ≡ Some 0
second_by v w f settled (inl same) = second_same v w same settled.second
second_by v w f settled (inr named) = ap (λ (z : PortValue). z.holdings.old1) named ∙ settled.second

-- ---- what is owed
-- from what refusal_laws says of the words to the relation between ports and plain values
pub owed : (v w : PortValue) (x : Solo) (f level : ℕ) (q : Plain) → w.post ≡ v.post → Stands w (with_frames q x) → refusals.Owes v.post.machine w f level q → Owes w (with_frames q x)
owed v w x f level q post stands (refusals.nothing telling none d) = nothing (record { stands = stands; first = none; frames = subst (λ (o : Post). Describes o.machine (told_word w) q) (sym post) d })
owed v w x f level q post stands (refusals.a_release left) = a_release f level stands (subst (λ (o : Post). IsLeft o.machine w f level q) (sym post) left)

module _ (stays : AloneStays) (v w : PortValue) (x : Solo) (d f level : ℕ) (stands : Stands v x) (r : Request) (ds : List Deed) (serves : Serves v w r ds) (mild : IsMild r) (none : SetsNothing ds) (rests : Rests w) (old : w.holdings.old1 ≡ Some 0) where
  abbrev o : PlainOutcome
  o = alone v.post.machine d level f x.frames

  pub refused_so : (y : Refusal) (next : Solo → Outcome) → IsRefusedAs v.post.machine w f level y o → IsRefusedSo w y (behind x o next)
  refused_so y next a =
      subst (λ c. IsRefusedSo w y (behind_by x o c next)) (sym a.is)
      (record {
        why = Frames a.cause;
        is = refl;
        same = a.same;
        none = refl;
        owes = owed v w x f level o.left (came_post v w (serves_came v w r ds serves))
            (stands_stay stays v w x o.left r ds stands serves mild none rests old (unkept_alone v.post.machine d level f x.frames stands.unkept)) a.owes;
      })
