-- Elements that ask nothing of frames: flushes, and commands that are not known.
use Rattle.std.proofs.Common.{◌≡◌, ℕ, Bool, List, Option, Result, Ok, Err, refl, sym, ap, ◌∙◌, subst}
use Rattle.xp_words.specs.declared.place.Place.{Place}
use Rattle.xp_words.specs.declared.place.Place.TheVariants.{Cell, Kind, Refs}
use Rattle.xp_words.specs.declared.reply.Pause.TheVariants as pauses
use Rattle.xp_words.specs.declared.reply.Refusal.TheVariants as refusals
use Rattle.xp_words.specs.declared.reply.Stop.{Stop}
use Rattle.xp_words.specs.declared.reply.Stop.TheVariants.{Refused, Paused}
use Rattle.xp_board.specs.Told.{Post, PortValue, told_word}
use Rattle.step_maker.specs.Answers.{Deed, Serves, Stops}
use Rattle.step_maker.specs.Asked.{Request}
use Rattle.step_maker.specs.Holds.{FlushedSame, Rests}
use Rattle.step_maker.proofs.Coming.{came_post, came_self}
use Rattle.step_maker.proofs.Piecing.{serves_came}
use Rattle.answer_laws.proofs.Shared.{alone_telling}
use Rattle.replay_laws.specs.LeftAlone.{IsLeftAlone, IsUnasked, cell, kind, refs}
use Rattle.replay_laws.proofs.Keeping.{left_alone}
use Rattle.table_law.specs.Plain.{Describes, share_of, sober}
use Rattle.xp_words.specs.KindWords.{kind_fields}
use Rattle.course_laws.proofs.Awaiting.{AloneStays, NobodyWaitedFor, clock_by}
use Rattle.mmuext_ops.specs.Elements.{ext_request}
use Rattle.mmuext_ops.specs.declared.element.Element.{Element}
use Rattle.mmuext_ops.specs.declared.element.Element.TheVariants.{FlushLocal, Invalidate, FlushVcpus, Unknown}
use Rattle.script_law.specs.Elements.{performed}
use Rattle.script_law.specs.Values.{Solo, Numbers, did}
use Rattle.solo_ports.specs.Coming.{Comes, IsDoneSo}
use Rattle.solo_ports.specs.Standing.{Clean, Fair, IsSettled, Owes, nothing, whose}
use Rattle.solo_pins.specs.Performing.{IsOnTables, IsPerformed, KeepsPin}
use Rattle.solo_pins.proofs.Standing.{IsMild, SetsNothing, first_same, first_there, second_same, stands_stay}
use Rattle.solo_pins.proofs.Deeds.{IsQuiet, sets_nothing}

-- ---- nothing is asked of any frame
module _ (stays : AloneStays) (v w : PortValue) (x : Solo) (clean : Clean v x) (settled : IsSettled v) (same : FlushedSame v w) (rests : Rests w) where
  module _ (r : Request) (ds : List Deed) (serves : Serves v w r ds) (mild : IsMild r) (unasked : (f : ℕ) → IsUnasked r f) (none : SetsNothing ds) where
    there : (q : Place) → IsLeftAlone v.post.machine v.post.vcpu r ds q → told_word w q ≡ told_word v q
    there q away = left_alone v w r ds q (alone_telling v clean.stands.alone) serves away

    pub clean_unasked : Clean w x
    clean_unasked =
        let came = serves_came v w r ds serves in
        record {
          stands = stands_stay stays v w x x.frames r ds clean.stands serves mild none rests (second_same v w same settled.second) clean.stands.unkept;
          first = first_there stays v w x clean.stands came rests 0 (first_same v w same settled.first);
          frames = subst (λ (o : Post). Describes o.machine (told_word w) x.frames) (sym (came_post v w came))
              (record {
                shares = λ g inside. clean.frames.shares g inside ∙ sym (ap share_of (there (Refs g) (refs g (unasked g))));
                kinds = λ g inside. clean.frames.kinds g inside ∙ sym (ap (λ y. sober (kind_fields y)) (there (Kind g) (kind g (unasked g))));
                cells = λ g i inside few. clean.frames.cells g i inside few ∙ sym (there (Cell g i) (cell g i (unasked g)));
              });
        }

pub done_so : (w : PortValue) (x : Solo) → Owes w x → IsDoneSo w (did x)
done_so w x owes = record { fine = refl; none = refl; owes = owes }

-- ---- the elements
module _ (stays : AloneStays) (nobody : NobodyWaitedFor) (v w : PortValue) (x : Solo) (d : ℕ) (awaited : Option ℕ) (answers : List Bool) (clean : Clean v x) (settled : IsSettled v) (fair : Fair v w) where
  spent : (r : Request) (y : ℕ) → Stops v w r (Refused (refusals.Clock y)) → ⊥
  spent r y stops = clock_by v w v w r y fair.clock (came_self v) (came_self w) stops

  -- it sets nothing and asks nothing: nothing is left to be settled
  quiet : (e : Element) (answer : Result (Unit {0}) Stop) → IsOnTables e → IsQuiet e answer → IsMild (ext_request v.post.machine v.post.vcpu d e awaited answer) → ((f : ℕ) → IsUnasked (ext_request v.post.machine v.post.vcpu d e awaited answer) f) →
      FlushedSame v w → IsPerformed v w d e awaited answers answer → Clean w x
  quiet e answer on none mild unasked same a =
      let s = a.serves in
      clean_unasked stays v w x clean settled same a.rests (ext_request v.post.machine v.post.vcpu d e awaited answer) s.0 s.2 mild unasked (sets_nothing v.post.machine v.post.vcpu e answer s.0 s.1 on none)

  -- ---- the own flush
  pub flushes : (answer : Result (Unit {0}) Stop) → IsPerformed v w d FlushLocal awaited answers answer → Comes (KeepsPin FlushLocal) w x (performed (whose v) FlushLocal x) answer
  flushes (Ok done) a = done_so w x (nothing (quiet FlushLocal (Ok tt) tt tt (record { destroys = refl; grants = refl; pages = refl }) (λ f. record { names = refl; backs = refl; entries = refl; contexts = refl; walks = refl; destroys = refl }) a.hand a))
  flushes (Err (Refused (refusals.Clock y))) a = absurd (spent (ext_request v.post.machine v.post.vcpu d FlushLocal awaited (Err (Refused (refusals.Clock y)))) y a.stops)
  flushes (Err (Refused y)) a = absurd a.kinds
  flushes (Err (Paused y)) a = absurd a.kinds

  -- ---- translations of one page
  pub invalidates : (va : ℕ) (answer : Result (Unit {0}) Stop) → IsPerformed v w d (Invalidate va) awaited answers answer → Comes (KeepsPin (Invalidate va)) w x (performed (whose v) (Invalidate va) x) answer
  invalidates va (Ok done) a =
      done_so w x (nothing (quiet (Invalidate va) (Ok tt) tt tt (record { destroys = refl; grants = refl; pages = refl }) (λ f. record { names = refl; backs = refl; entries = refl; contexts = refl; walks = refl; destroys = refl }) a.hand a))
  invalidates va (Err y) a = absurd a.kinds

  -- ---- flushes of others, of whom there are none
  waited : (r : Request) (u stamp found : ℕ) → Stops v w r (Paused (pauses.Flush u stamp found)) → ⊥
  waited r u stamp found stops = nobody v w r u stamp found clean.stands.only stops

  pub waits : (mask : ℕ) (answer : Result (Unit {0}) Stop) → IsPerformed v w d (FlushVcpus mask) awaited answers answer → Comes (KeepsPin (FlushVcpus mask)) w x (performed (whose v) (FlushVcpus mask) x) answer
  waits mask (Ok done) a =
      done_so w x (nothing (quiet (FlushVcpus mask) (Ok tt) tt tt (record { destroys = refl; grants = refl; pages = refl }) (λ f. record { names = refl; backs = refl; entries = refl; contexts = refl; walks = refl; destroys = refl }) a.hand a))
  waits mask (Err (Refused (refusals.Clock y))) a = absurd (spent (ext_request v.post.machine v.post.vcpu d (FlushVcpus mask) awaited (Err (Refused (refusals.Clock y)))) y a.stops)
  waits mask (Err (Refused y)) a = absurd a.kinds
  waits mask (Err (Paused (pauses.Flush u stamp found))) a = absurd (waited (ext_request v.post.machine v.post.vcpu d (FlushVcpus mask) awaited (Err (Paused (pauses.Flush u stamp found)))) u stamp found a.stops)
  waits mask (Err (Paused y)) a = absurd a.kinds

  -- ---- a command that is not known
  pub unknown : (answer : Result (Unit {0}) Stop) → IsPerformed v w d Unknown awaited answers answer → Comes (KeepsPin Unknown) w x (performed (whose v) Unknown x) answer
  unknown (Ok done) a = absurd (let e = a.course.2 in cc)
  unknown (Err (Refused y)) a =
      record {
        why = Numbers refusals.BadCommand;
        is = refl;
        same = (let e = a.course.2 in cc);
        none = refl;
        owes = nothing (quiet Unknown (Err (Refused y)) tt tt (record { destroys = refl; grants = refl; pages = refl }) (λ f. record { names = refl; backs = refl; entries = refl; contexts = refl; walks = refl; destroys = refl }) a.hand a);
      }
  unknown (Err (Paused y)) a = absurd (let e = a.course.2 in cc)
