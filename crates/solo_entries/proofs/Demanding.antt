-- What a new word asks is taken, or refused, from words at rest that a plain value describes; or the acquisition of a table is paused.
use Rattle.solo_entries.specs.Exchanges.{LeavesFrames, RefusedSo, later, now}
use Rattle.std.proofs.Common.{◌≡◌, ◌⊎◌, ◌≤◌, ℕ, ◌-◌, Bool, true, List, length, None, Result, Ok, Err, refl, sym, ap, ◌∙◌, subst, arith, inl, inr}
use Rattle.xp_words.specs.Machine.{IsMachine, Machine}
use Rattle.xp_words.specs.declared.entry.Demand.{Demand}
use Rattle.xp_words.specs.declared.entry.Demand.TheVariants as demands
use Rattle.xp_words.specs.declared.reply.Pause.TheVariants.{Due}
use Rattle.xp_words.specs.declared.reply.Stop.{Stop}
use Rattle.xp_words.specs.declared.reply.Stop.TheVariants.{Refused, Paused}
use Rattle.xp_board.specs.Told.{Post, PortValue, is_telling, told_word}
use Rattle.step_maker.specs.Moves.{Came}
use Rattle.step_maker.specs.Plain.{Leaves}
use Rattle.step_maker.proofs.Coming.{came_post, came_trans}
use Rattle.answer_laws.specs.Alone.{IsAlone}
use Rattle.answer_laws.proofs.Shared.{alone_telling}
use Rattle.entry_exchange.specs.Course as course
use Rattle.entry_exchange.specs.Course.{TookDemand}
use Rattle.frame_words.specs.Plain.{got, refer}
use Rattle.partial_state.specs.Levels.{level_type}
use Rattle.table_entries.specs.Acquiring.{Acquired, GotRef}
use Rattle.table_entries.proofs.Shared.{ref_came}
use Rattle.table_words.specs.OldWords.{old_place}
use Rattle.table_words.specs.declared.old_words.OldWord.TheVariants.{First}
use Rattle.table_law.specs.Alone.{PlainOutcome, alone, meet, take_at, take_reference}
use Rattle.table_law.specs.Lawful.{IsAtRest}
use Rattle.table_law.specs.Plain.{Describes, Plain}
use Rattle.course_laws.specs.Courses.{ClockGoesOn, IsOrderly}
use Rattle.course_laws.proofs.Awaiting.{alone_orderly}
use Rattle.course_laws.proofs.Stopping.{acquired_came}
use Rattle.refusal_laws.specs.Refusals.{ComesTo}
use Rattle.refusal_laws.specs.Refusals as refusing
use Rattle.writable_pages.specs.Pages as pages
use Rattle.writable_pages.specs.Pages.{GotPage}
use Rattle.solo_entries.proofs.Known.{Known}
use Rattle.solo_entries.proofs.Olds.{Keeps, two_five, two_four, got_page_keeps, had_keeps, ref_keeps, KeepsSecond, keeps_self, three_four, three_five, acquired_keeps, three_two}
use Rattle.exchange_laws.proofs.Alone.{page_stops}
use Rattle.solo_entries.proofs.Stopping.{ended_by}
use Rattle.solo_entries.proofs.Taking.{EndsSo, IsEnded, free, got_it, page_ends, unreferred, untaken}
use Rattle.xp_words.specs.declared.place.Place.TheVariants.{Refs}
use Rattle.exchange_laws.proofs.Going.{took_page_came}

-- ---- what a call comes to

-- what is taken: then nothing is left to be settled
abbrev pub TookSo : {A : Type 0} → Machine → PortValue → PlainOutcome → Result A Stop → Type 0
TookSo n w a (Ok done) = (a.refusal ≡ None) × (told_word w (old_place w.post.vcpu First) ≡ 0) × Describes n (told_word w) a.left
TookSo n w a (Err (Refused y)) = RefusedSo n w y a
TookSo n w a (Err (Paused x)) = ⊥

pub ends_comes : {A : Type 0} (n : Machine) (w : PortValue) (a : PlainOutcome) (r : Result A Stop) → told_word w (old_place w.post.vcpu First) ≡ 0 → EndsSo n w a r → TookSo n w a r
ends_comes n w a (Ok done) first e = (e.0, first, e.1)
ends_comes n w a (Err (Refused y)) first e = record { cause = e.cause; is = e.is; same = e.same; left = now first e.describes }
ends_comes n w a (Err (Paused x)) first e = e

owes_left : (n : Machine) (w : PortValue) (f level : ℕ) (q : Plain) → refusing.Owes n w f level q → LeavesFrames n w q
owes_left n w f level q (refusing.nothing telling first d) = now first d
owes_left n w f level q (refusing.a_release left) = later f level left

-- where it is had the first old word names no frame
abbrev pub HadFirst : PortValue → Result ℕ Stop → Type 0
HadFirst w (Ok g) = told_word w (old_place w.post.vcpu First) ≡ 0
HadFirst w (Err e) = Unit {0}

pub comes_so : (n : Machine) (w : PortValue) (f level : ℕ) (a : PlainOutcome) (r : Result ℕ Stop) → HadFirst w r → ComesTo n w f level a r → TookSo n w a r
comes_so n w f level a (Ok g) first c = (c.0, first, c.1)
comes_so n w f level a (Err (Refused y)) first c = record { cause = c.cause; is = c.is; same = c.same; left = owes_left n w f level a.left c.owes }
comes_so n w f level a (Err (Paused x)) first c = c

-- the acquisition of a table that the word asks was paused by the gate
pub record PausedDemand (v : PortValue) (owner level : ℕ) (d : Demand) (w : PortValue) (answers : List Bool) (r : Result (Unit {0}) Stop) : Type 0 where
  pub table : ℕ
  pub asks : d ≡ demands.Typed table (level_type (level - 1))
  pub two : 2 ≤ level
  pub paused : r ≡ Err (Paused Due)
  pub acquired : Acquired v table owner (level - 1) w answers (Err (Paused Due))

-- an answer of a whole acquisition as one of the demand
abbrev pub as_demand : Result ℕ Stop → Result (Unit {0}) Stop
as_demand (Ok g) = Ok tt
as_demand (Err e) = Err e

pub done_as : (n : Machine) (w : PortValue) (a : PlainOutcome) (r : Result ℕ Stop) → TookSo n w a r → TookSo n w a (as_demand r)
done_as n w a (Ok g) c = c
done_as n w a (Err (Refused y)) c = c
done_as n w a (Err (Paused x)) c = c

module _ (k : Known) (v : PortValue) (owner : ℕ) (p : Plain) (machine : IsMachine v.post.machine) (alone_v : IsAlone v) (only : length v.post.machine.vcpu_domain ≡ 1) (calm : IsAtRest v.post.machine (told_word v)) (first : told_word v (old_place v.post.vcpu First) ≡ 0) (d : Describes v.post.machine (told_word v) p) where
  abbrev n : Machine
  n = v.post.machine

  telling : is_telling v ≡ true
  telling = alone_telling v alone_v

  orderly : IsOrderly n (told_word v)
  orderly = alone_orderly v alone_v

  first_there : (w : PortValue) → Came v w → Keeps v.post.vcpu 2 two_four two_five v w → told_word w (old_place w.post.vcpu First) ≡ 0
  first_there w came keeps = subst (λ (o : Post). told_word w (old_place o.vcpu First) ≡ 0) (sym (came_post v w came)) ((keeps telling).same ∙ first)

  -- ---- a reference
  none_there : (g : ℕ) (w : PortValue) → GotRef v w g owner (Ok g) → refer n owner g (told_word v (Refs g)) ≡ None
  none_there g w ref = (ref.plain telling).0

  words_there : (g : ℕ) (w : PortValue) → GotRef v w g owner (Ok g) → Leaves w (got g (told_word v))
  words_there g w ref = (ref.plain telling).1

  ref_had : (g : ℕ) (w : PortValue) → GotRef v w g owner (Ok g) → EndsSo {A = Unit {0}} n w (take_reference n owner g p) (Ok tt)
  ref_had g w ref =
      let came = ref_came v w g owner (Ok g) ref in (
        free v owner p machine telling calm orderly d g w (none_there g w ref) (words_there g w ref) came,
        got_it v owner p machine telling calm orderly d g w (none_there g w ref) (words_there g w ref) came,
      )

  ref_refused : (A : Type 0) (g : ℕ) (w : PortValue) (e : Stop) → GotRef v w g owner (Err e) → EndsSo {A = A} n w (take_reference n owner g p) (Err e)
  ref_refused A g w (Refused y) ref = unreferred v owner p machine telling calm orderly d g w y ref
  ref_refused A g w (Paused x) ref = absurd (ref.plain telling)

  -- ---- ordinary memory
  page_refused : (g : ℕ) (w : PortValue) (e : Stop) → GotRef v w g owner (Err e) → EndsSo {A = ℕ} n w (alone n owner 0 g p) (Err e)
  page_refused g w (Refused y) ref = untaken v owner p machine telling calm orderly d g 0 w y ref
  page_refused g w (Paused x) ref = absurd (ref.plain telling)

  page_stop : (w : PortValue) (a : PlainOutcome) (e : Stop) → EndsSo {A = Unit {0}} n w a (Err e) → EndsSo {A = ℕ} n w a (Err e)
  page_stop w a (Refused y) ends = ends
  page_stop w a (Paused x) ends = ends

  page_got : (g : ℕ) (w : PortValue) (r : Result ℕ Stop) → GotPage v g owner w r → IsEnded r → EndsSo n w (alone n owner 0 g p) r
  page_got g _ _ (pages.unreferred w stop ref) ended = page_refused g w stop ref
  page_got g _ _ (pages.refused u w stop ref took) ended =
      page_stop w (alone n owner 0 g p) stop (page_ends v owner p machine telling calm orderly d g u (none_there g u ref) (words_there g u ref) (ref_came v u g owner (Ok g) ref) w (Err stop) took ended)
  page_got g _ _ (pages.had u w ref took) ended =
      page_ends v owner p machine telling calm orderly d g u (none_there g u ref) (words_there g u ref) (ref_came v u g owner (Ok g) ref) w (Ok tt) took tt

  page_came : (g : ℕ) (w : PortValue) (r : Result ℕ Stop) → GotPage v g owner w r → Came v w
  page_came g _ _ (pages.unreferred w stop ref) = ref_came v w g owner (Err stop) ref
  page_came g _ _ (pages.refused u w stop ref took) = came_trans v u w (ref_came v u g owner (Ok g) ref) (took_page_came u g owner w (Err stop) took)
  page_came g _ _ (pages.had u w ref took) = came_trans v u w (ref_came v u g owner (Ok g) ref) (took_page_came u g owner w (Ok tt) took)

  page_comes : (g : ℕ) (w : PortValue) (r : Result ℕ Stop) → GotPage v g owner w r → ClockGoesOn v w → TookSo n w (alone n owner 0 g p) r
  page_comes g w r page goes =
      let ended = ended_by k v w r alone_v only goes (page_stops v g owner w r page) in
      ends_comes n w (alone n owner 0 g p) r (first_there w (page_came g w r page) (got_page_keeps v.post.vcpu 2 two_four two_five v w g owner r page ended)) (page_got g w r page ended)

  -- ---- a table
  had_first : (g l : ℕ) (w : PortValue) (answers : List Bool) (r : Result ℕ Stop) → Acquired v g owner l w answers r → HadFirst w r
  had_first g l w answers (Ok h) a = first_there w (acquired_came v g owner l w answers (Ok h) a) (had_keeps v.post.vcpu 2 two_four two_five v g owner l w answers h a)
  had_first g l w answers (Err e) a = tt

  table_comes : (g l : ℕ) (w : PortValue) (answers : List Bool) (r : Result ℕ Stop) → 1 ≤ l → l ≤ 4 → Acquired v g owner l w answers r → ClockGoesOn v w → (r ≡ Err (Paused Due)) ⊎ TookSo n w (alone n owner l g p) r
  table_comes g l w answers r low high a goes = elim (k.first v w g owner l p answers r alone_v only calm first low high d a goes) [
    | inl due ↦ inl due
    | inr comes ↦ inr (comes_so n w g l (alone n owner l g p) r (had_first g l w answers r a) comes)
  ]

  -- ---- what the word asks
  module _ (level f i : ℕ) (high : level ≤ 4) where
    abbrev MeetsSo : PortValue → Demand → Result (Unit {0}) Stop → Type 0
    MeetsSo w e r = TookSo v.post.machine w (meet v.post.machine owner (take_at (level - 1) v.post.machine owner) f i p e) r

    at_one : (g : ℕ) (w : PortValue) (r : Result (Unit {0}) Stop) → level ≡ 1 → TookSo n w (alone n owner 0 g p) r → TookSo n w (alone n owner (level - 1) g p) r
    at_one g w r one is = let e : 0 ≡ level - 1 = omega (arith, one) in subst (λ l. TookSo n w (alone n owner l g p) r) e is

    pub demand_comes : (e : Demand) (w : PortValue) (answers : List Bool) (r : Result (Unit {0}) Stop) → TookDemand owner level v e w answers r → ClockGoesOn v w → PausedDemand v owner level e w answers r ⊎ MeetsSo w e r
    demand_comes _ _ _ _ course.nothing goes = inr (refl, first, d)
    demand_comes _ _ _ _ (course.referred w g ref) goes =
        inr (ends_comes {A = Unit {0}} n w (take_reference n owner g p) (Ok tt) (first_there w (ref_came v w g owner (Ok g) ref) (ref_keeps v.post.vcpu 2 two_four two_five v w g owner (Ok g) ref)) (ref_had g w ref))
    demand_comes _ _ _ _ (course.unreferred w g stop ref) goes =
        inr (ends_comes {A = Unit {0}} n w (take_reference n owner g p) (Err stop) (first_there w (ref_came v w g owner (Err stop) ref) (ref_keeps v.post.vcpu 2 two_four two_five v w g owner (Err stop) ref)) (ref_refused (Unit {0}) g w stop ref))
    demand_comes _ _ _ _ (course.paged w g one page) goes = inr (at_one g w (Ok tt) one (page_comes g w (Ok g) page goes))
    demand_comes _ _ _ _ (course.unpaged w g stop one page) goes = inr (at_one g w (Err stop) one (done_as n w (alone n owner 0 g p) (Err stop) (page_comes g w (Err stop) page goes)))
    demand_comes _ _ _ _ (course.acquired w g answers two had) goes = elim (table_comes g (level - 1) w answers (Ok g) (omega arith) (omega arith) had goes) [
      | inl due ↦ absurd cc
      | inr comes ↦ inr comes
    ]
    demand_comes _ _ _ _ (course.refused w g answers stop two had) goes = elim (table_comes g (level - 1) w answers (Err stop) (omega arith) (omega arith) had goes) [
      | inl due ↦
          let is : stop ≡ Paused Due = cc in
          inl (record { table = g; asks = refl; two = two; paused = ap (λ e. Err e) is; acquired = subst (λ e. Acquired v g owner (level - 1) w answers (Err e)) is had })
      | inr comes ↦ inr (done_as n w (alone n owner (level - 1) g p) (Err stop) comes)
    ]

    -- the second old word stays
    pub demand_second : (e : Demand) (w : PortValue) (answers : List Bool) (r : Result (Unit {0}) Stop) → TookDemand owner level v e w answers r → ClockGoesOn v w → KeepsSecond v w
    demand_second _ _ _ _ course.nothing goes = keeps_self v.post.vcpu 3 three_four three_five v
    demand_second _ _ _ _ (course.referred w g ref) goes = ref_keeps v.post.vcpu 3 three_four three_five v w g owner (Ok g) ref
    demand_second _ _ _ _ (course.unreferred w g stop ref) goes = ref_keeps v.post.vcpu 3 three_four three_five v w g owner (Err stop) ref
    demand_second _ _ _ _ (course.paged w g one page) goes = got_page_keeps v.post.vcpu 3 three_four three_five v w g owner (Ok g) page tt
    demand_second _ _ _ _ (course.unpaged w g stop one page) goes =
        got_page_keeps v.post.vcpu 3 three_four three_five v w g owner (Err stop) page (ended_by {A = ℕ} k v w (Err stop) alone_v only goes (page_stops v g owner w (Err stop) page))
    demand_second _ _ _ _ (course.acquired w g answers two had) goes = acquired_keeps v.post.vcpu 3 three_four three_five three_two v g owner (level - 1) w answers (Ok g) had
    demand_second _ _ _ _ (course.refused w g answers stop two had) goes = acquired_keeps v.post.vcpu 3 three_four three_five three_two v g owner (level - 1) w answers (Err stop) had
