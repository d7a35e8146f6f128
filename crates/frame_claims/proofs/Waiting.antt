-- Where the steps of a wait for flushes are: at words of flushes and runs of vCPUs, the clock, and words of privileges.
use Rattle.std.proofs.Common.{◌≡◌, ℕ, nat_le, Bool, true, false, List, Option, None, Result, Ok, Err, refl, sym, subst, inl, inr}
use Rattle.xp_words.specs.Machine.{Machine}
use Rattle.xp_words.specs.declared.place.Place.{Place}
use Rattle.xp_words.specs.declared.place.Place.TheVariants.{Clock, Vcpu, Refs, Priv}
use Rattle.xp_words.specs.declared.reply.Pause.TheVariants.{Flush}
use Rattle.xp_words.specs.declared.reply.Refusal.{Refusal}
use Rattle.xp_words.specs.declared.reply.Refusal.TheVariants as refusals
use Rattle.xp_words.specs.declared.reply.Stop.{Stop}
use Rattle.xp_words.specs.declared.reply.Stop.TheVariants.{Refused, Paused}
use Rattle.xp_board.specs.Lists.{EachOf}
use Rattle.xp_board.specs.Readings.{last_clock}
use Rattle.xp_board.specs.Told.{Post}
use Rattle.step_maker.specs.Reasons.{OfOwner, Those, Whose}
use Rattle.step_maker.specs.Visits.{Visit, Only, Then}
use Rattle.step_maker.proofs.Piecing.{each_append}
use Rattle.flush_words.specs.Flushing as flushing
use Rattle.flush_words.specs.Flushing.{FlushedBy}
use Rattle.flush_waits.specs.Listing as waits
use Rattle.flush_waits.specs.Listing.{LooksAt, Slow, WaitedFor, WaitsInOrder, WeighsBy}
use Rattle.flush_waits.proofs.Shared.{clock_by}
use Rattle.frame_claims.proofs.Telling.{Alls, alls_nothing, alls_one, alls_then}

abbrev pub IsAside : Place → Type 0
IsAside Clock = Unit {0}
IsAside (Vcpu u k) = nat_le 4 k ≡ true
IsAside (Priv d) = Unit {0}
IsAside _ = ⊥

pub not_refs : (p : Place) (f : ℕ) → IsAside p → p ≡ Refs f → ⊥
not_refs p f aside e = subst IsAside e aside

module _ (Q : Visit → Type 0) (aside : (x : Visit) → IsAside x.place → Q x) where
  weighs : (n : Machine) (whose : Whose) (u : ℕ) (reaches : Bool) → Alls Q (WeighsBy n whose u reaches)
  weighs n (OfOwner owner) u reaches vs (inl mine) = alls_nothing Q vs mine.2
  weighs n (OfOwner owner) u reaches vs (inr look) = alls_one Q _ (aside _ tt) vs look.1.2
  weighs n (Those means) u reaches vs named = alls_nothing Q vs named.1

  flushes : (s : ℕ) (answer : Result (Unit {0}) Refusal) → Alls Q (FlushedBy s answer)
  unfolding EachOf
  flushes s _ _ flushing.FlushedBy.none = (aside _ tt, tt)
  flushes s _ _ (flushing.FlushedBy.once clock found to before some left) = (aside _ refl, (aside _ tt, (aside _ tt, tt)))

  module _ (q : Post) (whose : Whose) (stamp : ℕ) where
    one : (x : Visit) → Q x → Alls Q (Only x)
    one x is = alls_one Q x is

    two : (P R : List Visit → Type 0) → Alls Q P → Alls Q R → Alls Q (Then P R)
    two P R a b = alls_then Q P R a b

    looks : (u : ℕ) (answer : Result (Option ℕ) Refusal) → (vs : List Visit) → LooksAt q whose stamp u vs answer → EachOf Q vs
    looks u _ vs (waits.LooksAt.unmeant means is off none) = alls_nothing Q vs none
    looks u _ vs (waits.LooksAt.idle x other runs saw) = one _ (aside _ refl) vs saw
    looks u _ vs (waits.LooksAt.late y other past saw) = two _ _ (one _ (aside _ refl)) (one _ (aside _ refl)) vs saw
    looks u _ vs (waits.LooksAt.barred y other most saw) = two _ _ (one _ (aside _ refl)) (two _ _ (one _ (aside _ refl)) (weighs q.machine whose u false)) vs saw
    looks u _ vs (waits.LooksAt.behind y z other most saw) = two _ _ (one _ (aside _ refl)) (two _ _ (one _ (aside _ refl)) (two _ _ (weighs q.machine whose u true) (one _ (aside _ refl)))) vs saw
    looks u _ vs (waits.LooksAt.own_late y own past saw) = one _ (aside _ refl) vs saw
    looks u _ vs (waits.LooksAt.own_flushed y own most saw) = two _ _ (one _ (aside _ refl)) (flushes u (Ok tt)) vs saw
    looks u _ vs (waits.LooksAt.own_spent y r own most saw) = two _ _ (one _ (aside _ refl)) (flushes u (Err r)) vs saw

    in_order : (n : ℕ) (answer : Result (Option Slow) Refusal) → (vs : List Visit) → WaitsInOrder q whose stamp vs n answer → EachOf Q vs
    in_order _ _ _ (waits.WaitsInOrder.none vs is) = alls_nothing Q vs is
    in_order _ _ _ (waits.WaitsInOrder.more u first standing before now vs earlier looked is) =
        subst (EachOf Q) (sym is) (each_append Q before now (in_order u (Ok first) before earlier) (looks u (Ok standing) now looked))
    in_order _ _ _ (waits.WaitsInOrder.spent u first r before now vs earlier looked is) =
        subst (EachOf Q) (sym is) (each_append Q before now (in_order u (Ok first) before earlier) (looks u (Err r) now looked))

    pub waited_all : (answer : Result (Unit {0}) Stop) → Alls Q (WaitedFor q whose stamp answer)
    waited_all (Ok done) vs a = in_order _ (Ok None) vs a
    waited_all (Err (Refused r)) vs a = in_order a.0 (Err r) vs a.1
    waited_all (Err (Paused (Flush u t x))) vs a = in_order _ _ vs a.1
    waited_all (Err (Paused _)) vs a = absurd a

-- ---- why it is refused

module _ (q : Post) (whose : Whose) (stamp : ℕ) where
  spent_by : (u : ℕ) (r : Refusal) (vs : List Visit) → LooksAt q whose stamp u vs (Err r) → r ≡ refusals.Clock last_clock
  spent_by u _ vs (waits.LooksAt.own_spent y r own most saw) = clock_by u r saw.after saw.next

  pub is_clock : (n : ℕ) (r : Refusal) (vs : List Visit) → WaitsInOrder q whose stamp vs n (Err r) → r ≡ refusals.Clock last_clock
  is_clock _ _ _ (waits.WaitsInOrder.spent u first r before now vs earlier looked is) = spent_by u r now looked
