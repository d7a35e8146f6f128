-- A whole destruction, phase behind phase, with its gate.
use Rattle.std.proofs.Common.{◌≡◌, ℕ, ◌≤◌, refl, Bool, false, List, [], Result, Ok, Err, sym, ap, subst, append-nil}
use Rattle.xp_words.specs.declared.place.Place.TheVariants.{Life}
use Rattle.xp_words.specs.declared.reply.LogLine.{LogLine}
use Rattle.xp_words.specs.declared.reply.Stop.{Stop}
use Rattle.std.specs.Prelude.{None}
use Rattle.xp_board.specs.Told.{Post, PortValue}
use Rattle.xp_board.specs.declared.step.Act.TheVariants.{Store}
use Rattle.xp_board.specs.declared.step.StepKind.TheVariants as kinds
use Rattle.step_maker.specs.Holds.{Same}
use Rattle.step_maker.specs.Moves.{Moves}
use Rattle.step_maker.proofs.Coming.{came_post}
use Rattle.level_release.specs.Asking.{is_due_stop}
use Rattle.domain_destroy.specs.Coming.{HasComeTo}
use Rattle.domain_destroy.specs.Destroying.{DomainDestroyed, ListsAll, PhaseWent}
use Rattle.domain_destroy.specs.declared.place.DestroyAt.{DestroyAt}
use Rattle.domain_destroy.proofs.Burying.{IsPastAll, destroy_ends, destroy_stops, lists_stops}
use Rattle.domain_destroy.proofs.Parts.{destroy_came}
use Rattle.domain_destroy.proofs.Phasing.{phase_then}
use Rattle.xp_preempt.specs.Gates.{Gate, Gated}
use Rattle.xp_preempt.proofs.Consulting.{gated_as, gated_then}

pub phase_frames : {v w : PortValue} {d : ℕ} {at to : DestroyAt} {answers : List Bool} → PhaseWent v w d at to [] answers (Ok tt) → w.post.machine.frames ≡ v.post.machine.frames
phase_frames {v} {w} {d} part = ap (λ (p : Post). p.machine.frames) (came_post v w (destroy_came {A = Unit {0}} v w d (Ok tt) part.serves))

-- one phase behind another that did not stop
pub gated_both : {g h k : Gate} {paused : Bool} {v u w : PortValue} {d : ℕ} {at by to : DestroyAt} {answer : Result (Unit {0}) Stop} → Gated g h false (λ answers. PhaseWent v u d at by [] answers (Ok tt)) →
    Gated h k paused (λ answers. PhaseWent u w d by to [] answers answer) → Gated g k paused (λ answers. PhaseWent v w d at to [] answers answer)
gated_both {v = v} {u} {w} {d} {at} {by} {to} {answer} = gated_then refl (λ answers more one two. phase_then v u w d at by to answers more answer one two)

-- the frames of the machine do not change
lists_past : (u w : PortValue) (d op : ℕ) (by to : DestroyAt) (log log' : List LogLine) (left : ℕ) → ListsAll d op u by log w to log' (Ok left) → IsPastAll w to left
lists_past u w d op by to log log' left lists =
    let came = destroy_came u w d (Ok left) lists.part.serves in
    (lists.all.0, lists.all.1, subst (λ (p : Post). p.machine.frames ≤ lists.all.0) (sym (came_post u w came)) lists.all.2)

module _ {v w : PortValue} {d : ℕ} {at to : DestroyAt} {op : ℕ} {log : List LogLine} where
  -- it stopped
  pub gated_stops : {g h : Gate} {e : Stop} → HasComeTo w d to op log → Gated g h (is_due_stop e) (λ answers. PhaseWent v w d at to [] answers (Err e)) → Gated g h (is_due_stop e) (λ answers. DomainDestroyed v w d op at to log log answers (Err e))
  gated_stops {e = e} come = gated_as refl (λ answers part. destroy_stops v w d op at to log log answers e [] part (sym (append-nil log)) come)

  module _ {g h : Gate} {u : PortValue} {by : DestroyAt} {log' : List LogLine} (first : Gated g h false (λ answers. PhaseWent v u d at by [] answers (Ok tt))) where
    -- as the frames are listed
    pub gated_lists : {e : Stop} → is_due_stop e ≡ false → HasComeTo w d to op log' → ListsAll d op u by log w to log' (Err e) → Gated g h (is_due_stop e) (λ answers. DomainDestroyed v w d op at to log log' answers (Err e))
    gated_lists {e} undue come lists = gated_as undue (λ answers part. lists_stops v u w d op at by to log log' answers e part lists come) first

    -- or it came to its end
    pub gated_ends : {z : PortValue} {left found : ℕ} → HasComeTo w d to op log' → ListsAll d op u by log w to log' (Ok left) → Moves w z (Life d) (Store 255) kinds.Life None found → Same w z →
        Gated g h false (λ answers. DomainDestroyed v z d op at to log log' answers (Ok left))
    gated_ends {z} {left} {found} come lists m same =
        gated_as refl (λ answers part. destroy_ends v u w z d op at by to log log' answers left found part lists (lists_past u w d op by to log log' left lists) come m same) first
