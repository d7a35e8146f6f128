-- What the new word asks: nothing, a reference, ordinary memory, or a table of the level below.
use Rattle.std.proofs.Common.{◌≡◌, ℕ, ◌-◌, ◌≤◌, Bool, true, List, Result, Ok, Err, sym, ap, subst, refl, arith}
use Rattle.xp_words.specs.Machine.{IsMachine, Machine}
use Rattle.xp_words.specs.declared.entry.Demand.{Demand}
use Rattle.xp_words.specs.declared.reply.Refusal.TheVariants as refusals
use Rattle.xp_words.specs.declared.reply.Stop.{Stop}
use Rattle.xp_words.specs.declared.reply.Stop.TheVariants.{Refused, Paused}
use Rattle.xp_board.specs.Told.{PortValue, is_telling, told_word}
use Rattle.flush_waits.specs.Waiting.{IsWait}
use Rattle.step_maker.specs.Plain.{Words}
use Rattle.table_law.specs.Alone.{PlainOutcome, alone, go_on, meet, refused, take_at, take_reference}
use Rattle.table_law.specs.Lawful.{IsAtRest}
use Rattle.table_law.specs.Plain.{Describes, Plain, plain_of}
use Rattle.table_entries.specs.Acquiring.{GaveRef, GotRef, TookType}
use Rattle.course_laws.specs.Courses.{IsOrderly}
use Rattle.course_laws.proofs.Calling.{IsDone}
use Rattle.course_laws.proofs.Deciding.{last_refuses, one_call}
use Rattle.course_laws.proofs.Starting.{described}
use Rattle.writable_pages.specs.Pages as pages
use Rattle.writable_pages.specs.Pages.{GotPage, TookPage}
use Rattle.entry_exchange.specs.Course as course
use Rattle.entry_exchange.specs.Course.{TookDemand}
use Rattle.exchange_laws.specs.Plain.{ExchangesAsPlain}
use Rattle.exchange_laws.proofs.Taking.{counted_page, free, got_it, stopped_above, stopped_with, unreferred, untyped_page}

module _ (v : PortValue) (owner : ℕ) (machine : IsMachine v.post.machine) (telling : is_telling v ≡ true) (calm : IsAtRest v.post.machine (told_word v)) (orderly : IsOrderly v.post.machine (told_word v)) where
  abbrev n : Machine
  n = v.post.machine

  abbrev m : Words
  m = told_word v

  abbrev p : Plain
  p = plain_of (told_word v)

  -- ---- a reference
  read_stops : (g level : ℕ) (w : PortValue) (e : Stop) → GotRef v w g owner (Err e) → ExchangesAsPlain n w level (take_reference n owner g p) (Err e)
  read_stops g level w (Refused y) ref = let a = unreferred v owner machine telling calm orderly g w y ref in stopped_with n w level (take_reference n owner g p) y a.cause a.is a.same a.describes
  read_stops g level w (Paused x) ref = tt

  -- and with it whatever is taken behind it
  typed_stops : (g level l : ℕ) (w : PortValue) (e : Stop) → GotRef v w g owner (Err e) → ExchangesAsPlain n w level (alone n owner l g p) (Err e)
  typed_stops g level l w (Refused y) ref =
      let a = unreferred v owner machine telling calm orderly g w y ref in
      let left = (take_reference n owner g p).left in
      let is : alone n owner l g p ≡ refused a.cause left = ap (λ r. go_on r left (take_at l n owner g)) a.is in
      stopped_with n w level (alone n owner l g p) y a.cause (ap (λ (o : PlainOutcome). o.refusal) is) a.same (subst (λ (o : PlainOutcome). Describes n (told_word w) o.left) (sym is) a.describes)
  typed_stops g level l w (Paused x) ref = tt

  -- ---- ordinary memory
  abbrev PageAs : {A : Type 0} → PortValue → ℕ → ℕ → Result A Stop → Type 0
  PageAs w g level (Ok a) = IsDone v.post.machine w (alone v.post.machine owner 0 g (plain_of (told_word v)))
  PageAs w g level (Err e) = ExchangesAsPlain v.post.machine w level (alone v.post.machine owner 0 g (plain_of (told_word v))) (Err e)

  -- a flush of it that is not to be had is refused for the clock alone
  page_waits : (w : PortValue) (g level : ℕ) (e : Stop) → IsWait e → ExchangesAsPlain n w level (alone n owner 0 g p) (Err e)
  page_waits w g level (Refused (refusals.Clock x)) wait = tt
  page_waits w g level (Refused _) wait = absurd wait
  page_waits w g level (Paused x) wait = tt

  module _ (g level : ℕ) (u : PortValue) (ref : GotRef v u g owner (Ok g)) where
    untyped_stops : (x w : PortValue) (e : Stop) → TookType u x g owner 0 (Err e) → GaveRef x w g → ExchangesAsPlain n w level (alone n owner 0 g p) (Err e)
    untyped_stops x w (Refused y) type back = untyped_page v owner machine telling calm orderly g u ref x w y type back level
    untyped_stops x w (Paused y) type back = tt

    page_took : (w : PortValue) (r : Result (Unit {0}) Stop) → TookPage u g owner w r → PageAs w g level r
    page_took _ _ (pages.counted w type) = counted_page v owner machine telling calm orderly g u ref w type
    page_took _ _ (pages.untyped x w stop type back) = untyped_stops x w stop type back
    page_took _ _ (pages.waiting x w own stamp stop type left) = page_waits w g level stop type.waits.0

  page_got : (g level : ℕ) (w : PortValue) (r : Result ℕ Stop) → GotPage v g owner w r → PageAs w g level r
  page_got g level _ _ (pages.unreferred w stop ref) = typed_stops g level 0 w stop ref
  page_got g level _ _ (pages.refused u w stop ref took) = page_took g level u ref w (Err stop) took
  page_got g level _ _ (pages.had u w ref took) = page_took g level u ref w (Ok tt) took

  -- ---- what it asks
  module _ (level f i : ℕ) (low : 1 ≤ level) (high : level ≤ 4) where
    -- at level 1 it is taken as memory
    at_one : (g : ℕ) (w : PortValue) (r : Result (Unit {0}) Stop) → level ≡ 1 → ExchangesAsPlain n w level (alone n owner 0 g p) r → ExchangesAsPlain n w level (alone n owner (level - 1) g p) r
    at_one g w r one is = let e : 0 ≡ level - 1 = omega (arith, one) in subst (λ l. ExchangesAsPlain n w level (alone n owner l g p) r) e is

    pub demand_took : (d : Demand) (w : PortValue) (answers : List Bool) (r : Result (Unit {0}) Stop) → TookDemand owner level v d w answers r →
        ExchangesAsPlain v.post.machine w level (meet v.post.machine owner (take_at (level - 1) v.post.machine owner) f i (plain_of (told_word v)) d) r
    demand_took _ _ _ _ course.nothing = (refl, described n m)
    demand_took _ _ _ _ (course.referred w g ref) = (free v owner machine telling calm orderly g w ref, got_it v owner machine telling calm orderly g w ref)
    demand_took _ _ _ _ (course.unreferred w g stop ref) = read_stops g level w stop ref
    demand_took _ _ _ _ (course.paged w g one page) = let a = page_got g level w (Ok g) page in at_one g w (Ok tt) one (a.none, a.describes)
    demand_took _ _ _ _ (course.unpaged w g stop one page) = at_one g w (Err stop) one (page_got g level w (Err stop) page)
    demand_took _ _ _ _ (course.acquired w g answers two had) = let a = one_call v g owner (level - 1) machine telling calm orderly (omega arith) (omega arith) w answers (Ok g) had in (a.none, a.describes)
    demand_took _ _ _ _ (course.refused w g answers stop two had) =
        stopped_above n w level (alone n owner (level - 1) g p) stop two
        (last_refuses n owner v w g (level - 1) (alone n owner (level - 1) g p) stop (one_call v g owner (level - 1) machine telling calm orderly (omega arith) (omega arith) w answers (Err stop) had))
