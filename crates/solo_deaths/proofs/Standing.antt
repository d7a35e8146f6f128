-- Ports between the parts of a destruction: one step behind another.
use Rattle.std.proofs.Common.{◌≡◌, ℕ, true, Option, refl, ◌∙◌, subst}
use Rattle.xp_words.specs.declared.place.Place.{Place}
use Rattle.xp_words.specs.declared.place.Place.TheVariants.{Vcpu}
use Rattle.xp_board.specs.declared.step.Act.TheVariants.{Load}
use Rattle.xp_board.specs.declared.step.Mark.{Mark}
use Rattle.xp_board.specs.declared.step.StepKind.{StepKind}
use Rattle.xp_board.specs.Told.{Post, PortValue, is_telling, told_word}
use Rattle.step_maker.specs.Moves.{Came, Moves}
use Rattle.step_maker.specs.Plain.{Leaves, Words}
use Rattle.step_maker.proofs.Coming.{came_post, moves_came}
use Rattle.step_maker.proofs.Telling.{load_tells}
use Rattle.answer_laws.proofs.Shared.{alone_telling}
use Rattle.course_laws.specs.Courses.{IsOrderly}
use Rattle.course_laws.proofs.Awaiting.{AloneStays, alone_orderly}
use Rattle.table_law.specs.Plain.{Describes, Plain}
use Rattle.table_twins.proofs.Entering.{described_leaves}
use Rattle.solo_ports.specs.Standing.{IsUnkept}
use Rattle.solo_deaths.specs.Between.{Between}

module _ (stays : AloneStays) (o : Post) (v : PortValue) (p : Plain) (b : Between o v p) where
  pub telling : is_telling v ≡ true
  telling = alone_telling v b.alone

  pub orderly : IsOrderly o.machine (told_word v)
  orderly = subst (λ (q : Post). IsOrderly q.machine (told_word v)) b.post (alone_orderly v b.alone)

  -- behind steps that leave these words
  pub between_by : (w : PortValue) (m : Words) (q : Plain) → Came v w → Leaves w m → ((s k : ℕ) → m (Vcpu s k) ≡ told_word v (Vcpu s k)) → Describes o.machine m q → IsUnkept o.machine q → Between o w q
  between_by w m q came leaves same d unkept =
      record {
        post = came_post v w came ∙ b.post;
        alone = stays v w b.alone came;
        first = leaves (Vcpu o.vcpu 2) ∙ same o.vcpu 2 ∙ b.first;
        second = leaves (Vcpu o.vcpu 3) ∙ same o.vcpu 3 ∙ b.second;
        frames = described_leaves o.machine w m q leaves d;
        unkept = unkept;
      }

  pub between_looks : (w : PortValue) (at : Place) (how : StepKind) (mark : Option Mark) (found : ℕ) → Moves v w at Load how mark found → Between o w p
  between_looks w at how mark found m = between_by w (told_word v) p (moves_came v w _ _ _ _ _ m) (load_tells v w _ _ _ _ m telling) (λ s k. refl) b.frames b.unkept
