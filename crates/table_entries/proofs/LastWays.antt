-- A last recorded entry that asks no type: it stands as it was recorded, and is settled once it is looked at.
use Rattle.std.proofs.Common.{◌≡◌, ℕ, ◌+◌, ◌-◌, if◌then◌else◌, true, false, List, Option, Some, None, Ok, IsTrue, refl, sym, ap, ◌∙◌, subst, arith, ◌<◌, not, Bool, [], Result, Err}
use Rattle.xp_words.specs.Entries.{demand_at, below}
use Rattle.xp_words.specs.KindWords.{kind_fields}
use Rattle.xp_words.specs.Machine.{Machine}
use Rattle.xp_words.specs.Places.{Sizes, sizes_of}
use Rattle.xp_words.specs.declared.entry.Demand.{Demand}
use Rattle.xp_words.specs.declared.entry.Demand.TheVariants.{Bad, Nothing, Read, Typed}
use Rattle.xp_words.specs.declared.kind.PageType.{PageType}
use Rattle.xp_board.specs.declared.holdings.Made.{Made}
use Rattle.xp_board.specs.declared.holdings.Unsettled.{Unsettled}
use Rattle.xp_board.specs.declared.holdings.Work.{Work}
use Rattle.xp_board.specs.After.{counts_fixed, learned_last, learned_work, learned_cell}
use Rattle.xp_board.specs.Hands.{work_on, typed_to}
use Rattle.xp_board.specs.Settling.{is_settled, settles, settles_last}
use Rattle.xp_board.specs.Told.{PortValue, told_word, is_telling}
use Rattle.xp_board.proofs.ListChanges.{first_by-changed_here}
use Rattle.xp_board.proofs.Sums.{when_eq}
use Rattle.step_maker.specs.Holds.{quiet, Holds, Same}
use Rattle.step_maker.specs.Plain.{Leaves, Words}
use Rattle.table_entries.specs.Between.{SeesEntry, HandResumed, LooksAgain, LooksLive, Meets, TakesLast, TypeTaken}
use Rattle.table_entries.specs.Plain.{ResumesPlainly, TwinResume, TypesAgain}
use Rattle.table_entries.specs.Tops.{IsSettledNow, LookedAnd, WorksAtTop, as_it_was, HoldsWorks}
use Rattle.table_entries.specs.declared.resuming.Resumed.TheVariants.{Settled}
use Rattle.table_entries.proofs.PiecesAsking.{top_here, looked_goes}
use Rattle.table_entries.proofs.Twins.{twin_resume, again_behind, again_refused, again_stopped, twin_again, twin_live}
use Rattle.xp_words.specs.PageTypes.{is_none}
use Rattle.xp_words.specs.declared.place.Place.TheVariants.{Cell}
use Rattle.xp_words.specs.declared.reply.Stop.{Stop}
use Rattle.xp_board.specs.declared.step.Act.TheVariants.{Load}
use Rattle.step_maker.specs.Moves.{Came, Met, Moves}
use Rattle.step_maker.proofs.Telling.{came_telling}
use Rattle.step_maker.specs.Answers.{Serves, Stops, missed}
use Rattle.step_maker.specs.Asked.{Asked, of_back, of_frame}
use Rattle.step_maker.specs.Visits.{Does}
use Rattle.step_maker.proofs.Piecing.{serves_came}
use Rattle.step_maker.proofs.Visiting.{does_as}
use Rattle.frame_words.specs.Freeing.{Puts, gave}
use Rattle.frame_words.specs.Plain.{TwinGet, put}
use Rattle.frame_words.specs.Refs.{Gets, IsRefStop, took}
use Rattle.frame_types.specs.Taking.{IsOfOther, LeavesLive}
use Rattle.frame_types.specs.declared.taking.Taken.{Taken}
use Rattle.frame_types.specs.declared.taking.Taken.TheVariants.{Counted, InWork, Waiting}
use Rattle.table_entries.specs.Asking.{AsksBelow, ShowsResumed, of_entries}
use Rattle.table_entries.specs.Found.{ResumesFound, TypedAgain}
use Rattle.table_entries.specs.declared.resuming.Resumed.{Resumed}
use Rattle.table_entries.proofs.Finding.{AsksNoType, live_found, resumes_had, standing_found, unreferred_found, untaken_found}
use Rattle.table_entries.proofs.HandAgain.{again_in_work, again_waits, ends_live, gets_on, live_hand, live_same, looked_again, taken_settled, takes_behind}
use Rattle.table_entries.proofs.HandLists.{asks_below, asks_some}
use Rattle.table_entries.proofs.HandReady.{given_up, opens_from, opens_waiting, take_aside, take_looking, take_other, takes_again}
use Rattle.table_entries.proofs.NextWays.{took_as}
use Rattle.table_entries.proofs.PiecesEntering.{again_asks, again_goes, again_more, asks_referred, live_goes, met, referred, still_below, typed, unreferred, untyped, waits_stops}
use Rattle.table_entries.proofs.PiecesTaking.{Goes}
use Rattle.xp_board.specs.declared.step.StepKind.TheVariants as kinds
use Rattle.table_entries.specs.declared.resuming.Resumed.TheVariants as again

-- ---- on a board that tells all words
no_type_plain : (d : Demand) (n : Machine) (w : PortValue) (m : Words) (owner : ℕ) → AsksNoType d → Leaves w m → ResumesPlainly n w m owner (Ok Settled) d
no_type_plain Nothing n w m owner other leaves = (refl, leaves)
no_type_plain Bad n w m owner other leaves = (refl, leaves)
no_type_plain (Read g) n w m owner other leaves = (refl, leaves)
no_type_plain (Typed g t) n w m owner other leaves = absurd (other g t refl)

pub standing_twin : (b u : PortValue) (f i owner : ℕ) (t : PageType) (word : ℕ) → SeesEntry b u f i t word → AsksNoType (demand_at t i word) → TwinResume b u f t i owner (Ok Settled)
standing_twin b u f i owner t word looks other =
    twin_resume owner t looks.look refl u (Ok Settled) (λ telling. no_type_plain (demand_at t i word) u.post.machine u (told_word u) owner other (λ q. refl))

-- ---- it is settled
no_type_settles : (z : Sizes) (n : ℕ) (steps : List Made) (d : Demand) → AsksNoType d → IsTrue (settles z n steps d)
no_type_settles z n steps Nothing other = refl
no_type_settles z n steps Bad other = refl
no_type_settles z n steps (Read g) other = refl
no_type_settles z n steps (Typed g t) other = absurd (other g t refl)

last_settled : (z : Sizes) (steps : List Made) (i w : ℕ) (t : PageType) (e : Work) (x : Option Unsettled) → e.recorded ≡ i + 1 → (kind_fields e.word).kind ≡ t → AsksNoType (demand_at t i w) →
    IsTrue (settles_last z e steps (learned_last i e.recorded w x))
last_settled z steps i w t e None recorded kind other = refl
last_settled z steps i w t e (Some x) recorded kind other =
    let before : e.recorded - 1 ≡ i = omega (arith, recorded) in
    subst (λ b. IsTrue (settles_last z e steps (if b then Some (record x { word = Some w }) else Some x))) (sym (when_eq (i + 1) e.recorded (sym recorded)))
    (subst (λ k. IsTrue (settles z x.since steps (demand_at k (e.recorded - 1) w))) (sym kind)
    (subst (λ j. IsTrue (settles z x.since steps (demand_at t j w))) (sym before) (no_type_settles z x.since steps (demand_at t i w) other)))

module _ {b u : PortValue} {f i : ℕ} {t : PageType} {word : ℕ} (looks : SeesEntry b u f i t word) (on : WorksAtTop f t (i + 1) b.holdings) where
  seen_top : Work
  seen_top =
      record on.top {
        seen = Some (record { index = i; word = word });
        unsettled = learned_last i on.top.recorded word on.top.unsettled;
        fixed = if counts_fixed i word on.top then on.top.fixed + 1 else on.top.fixed;
      }

  top_seen : work_on f u.holdings.works ≡ Some seen_top
  unfolding seen_top
  top_seen =
      ap (λ (x : PortValue). work_on f x.holdings.works) looks.hand
      ∙ first_by-changed_here (λ y. y.frame) f (learned_work i word) b.holdings.works on.top kept (top_here f (i + 1) t b.holdings on)
      ∙ ap (λ c. Some (if c then on.top else seen_top)) on.unmarked
    where
      kept : (x : Work) → (learned_work i word x).frame ≡ x.frame
      kept x = elim (kind_fields x.word).unflushed as (λ c. (if c then x else record x { seen = Some (record { index = i; word = word }); unsettled = learned_last i x.recorded word x.unsettled; fixed = if counts_fixed i word x then x.fixed + 1 else x.fixed }).frame ≡ x.frame) [ true ↦ refl | false ↦ refl ]

  pub standing_hand : AsksNoType (demand_at t i word) → LookedAnd b u f i as_it_was × IsSettledNow u f
  unfolding is_settled seen_top
  standing_hand other = (
    (word, ap quiet looks.hand),
    λ e at.
        let same : Some seen_top ≡ Some e = sym top_seen ∙ at in
        let is : seen_top ≡ e = cc in
        subst (λ y. IsTrue (is_settled (sizes_of u.post.machine) u.holdings y)) is (last_settled (sizes_of u.post.machine) u.holdings.steps i word t seen_top on.top.unsettled on.recorded on.kind other),
  )

-- ---- The last recorded entry again: all that its call ensures, by what became of it.
pub takes_last : {v w : PortValue} {f i owner : ℕ} {t : PageType} {answer : Result Resumed Stop} → ((pages : ℕ) → Meets v w f i owner pages (λ a. ShowsResumed v w owner pages t a) answer) → ResumesFound v w f i t owner answer →
    HandResumed v w f i owner t answer → TwinResume v w f t i owner answer → TakesLast v w f i owner t answer
takes_last resumes found hand plain =
    record {
      serves = λ pages. (resumes pages).serves;
      stops = λ pages. (resumes pages).stops;
      kinds = (resumes 0).kinds;
      shows = λ pages. (resumes pages).shows;
      looks = (resumes 0).looks;
      found = found;
      hand = hand;
      plain = plain;
    }

-- the look at it
pub looks_last : {b v : PortValue} {f i word : ℕ} {t : PageType} → Moves b v (Cell f i) Load kinds.Look None word → Holds b v (learned_cell f i word b.holdings) → f < b.post.machine.frames → i < 512 → HoldsWorks b.holdings →
    ((g : ℕ) → IsOfOther g (below t) b.holdings) → b.holdings.looking ≡ [] → WorksAtTop f t (i + 1) b.holdings → LooksAgain b v f i t word
looks_last look hand frame index held above looked works = record { looks = record { look = look; hand = hand; frame = frame; index = index; held = held; above = above; looked = looked }; works = works }

pub live_is : {v w : PortValue} {g : ℕ} {live on : Bool} → live ≡ on → LooksLive v w g live → LooksLive v w g on
live_is {v} {w} {g} is looks = subst (λ k. LooksLive v w g k) is looks

-- ---- it stands, or no reference is to be had
module _ {b u : PortValue} {f i word : ℕ} {t : PageType} (l : LooksAgain b u f i t word) where
  pub last_standing : {owner : ℕ} → AsksNoType (demand_at t i word) → TakesLast b u f i owner t (Ok again.Settled)
  last_standing {owner} none =
      takes_last (λ pages. met (looked_goes l.looks owner pages) tt) (standing_found l.looks owner none) (standing_hand l.looks l.works none)
      (standing_twin b u f i owner t word l.looks none)

  module _ {v : PortValue} {g owner : ℕ} {want : PageType} (asks : demand_at t i word ≡ Typed g want) where
    pub last_live : LooksLive u v g true → TakesLast b v f i owner t (Ok again.Settled)
    last_live live =
        takes_last (λ pages. met (live_goes b u v f i owner pages g true (looked_goes l.looks owner pages) live) tt) (live_found l.looks owner g want asks v live)
        (live_hand b u v f i t word g want l asks live) (twin_live v owner t l.looks.look asks live)

    -- its frame is not live, and no reference to be had
    pub last_unreferred : {x : PortValue} {e : Stop} → LooksLive u v g false → IsRefStop e → Serves v x (of_frame g owner None) (missed v.post.machine e) → Stops v x (of_frame g owner None) e → Gets {A = ℕ} v x g owner (Err e) →
        TwinGet {A = ℕ} v x g owner (Err e) → Same v x → TakesLast b x f i owner t (Err e)
    last_unreferred {x} {e} off is serves stops gets plain same =
        takes_last (λ pages. unreferred g (Some want) (again_goes owner pages l asks off) (again_asks owner pages l asks off) (again_more owner pages l asks off) is serves stops) (unreferred_found l.looks owner g want asks v off x e gets)
        (looked_again l v x g off same) (twin_again v owner t l.looks.look asks off x (Err e) (λ telling. again_refused v x g owner e plain telling want))

-- ---- its frame is not live, and a reference was taken
pub record HadAgain (b x : PortValue) (f i owner : ℕ) (t : PageType) (g : ℕ) (want : PageType) : Type 0 where
  pub u : PortValue
  pub v : PortValue
  pub word : ℕ
  pub looks : LooksAgain b u f i t word
  pub asks : demand_at t i word ≡ Typed g want
  pub off : LooksLive u v g false
  pub inside : g < v.post.machine.frames
  pub refers : Serves v x (of_frame g owner None) []
  pub lent : Holds v x (took g owner v.holdings)
  pub referred : TwinGet v x g owner (Ok g)
  pub gets : Gets v x g owner (Ok g)

pub had_again : {b u v : PortValue} {f i word n g : ℕ} {t want : PageType} → (x : PortValue) (owner : ℕ) → LooksAgain b u f i t word → demand_at t i word ≡ Typed n want → LooksLive u v n false → (g ≡ n) × (g < v.post.machine.frames) →
    Serves v x (of_frame n owner None) [] → Holds v x (took g owner v.holdings) → TwinGet v x n owner (Ok g) → Gets v x n owner (Ok g) → HadAgain b x f i owner t g want
had_again {b} {u} {v} {f} {i} {word} {n} {g} {t} {want} x owner looks asks off is refers lent referred gets =
    record {
      u = u;
      v = v;
      word = word;
      looks = looks;
      asks = asks ∙ ap (λ k. Typed k want) (sym is.0);
      off = subst (λ k. LooksLive u v k false) (sym is.0) off;
      inside = is.1;
      refers = subst (λ k. Serves v x (of_frame k owner None) []) (sym is.0) refers;
      lent = lent;
      referred = subst (λ k. TwinGet v x k owner (Ok g)) (sym is.0) referred;
      gets = subst (λ k. Gets v x k owner (Ok g)) (sym is.0) gets;
    }

module _ {b x : PortValue} {f i owner g : ℕ} {t want : PageType} (had : HadAgain b x f i owner t g want) where
  came_x : Came had.v x
  came_x = serves_came had.v x (of_frame g owner None) [] had.refers

  takes : Holds had.u x (took g owner had.u.holdings)
  takes = takes_behind had.u had.v x g owner (live_same had.u had.v g false had.off) had.lent

  had_goes : (pages : ℕ) → Goes b x f i owner pages []
  had_goes pages = referred g (Some want) (again_goes owner pages had.looks had.asks had.off) (again_asks owner pages had.looks had.asks had.off) x had.refers

  had_asks : (pages : ℕ) → Asked b.post.machine b.post.vcpu (of_entries owner pages) (Met b x) g owner (Some want)
  had_asks pages = asks_referred g (Some want) (again_goes owner pages had.looks had.asks had.off) (again_asks owner pages had.looks had.asks had.off) x had.refers

  had_below : (pages : ℕ) (y : PortValue) → Serves x y (of_frame g owner (Some want)) [] → AsksBelow b y owner pages t g
  had_below pages y types = still_below g want (had_goes pages) (had_asks pages) y types t (asks_below t i had.word g want had.asks)

  -- what the type's call needs
  pub again_some : IsTrue (not (is_none want))
  again_some = asks_some t i had.word g want had.asks

  pub again_aside : work_on g x.holdings.works ≡ None → typed_to g x.holdings.typed ≡ 0
  again_aside none = take_aside had.looks.looks owner had.asks x takes none

  pub again_other : IsOfOther g want x.holdings
  again_other = take_other had.looks.looks owner had.asks x takes

  pub again_looking : x.holdings.looking ≡ []
  again_looking = take_looking had.looks.looks owner had.asks x takes

  had_found : (w : PortValue) (answer : Result Resumed Stop) → Does x w (λ vs. TypedAgain x.post g owner want answer vs) → ResumesFound b w f i t owner answer
  had_found w answer rest = resumes_had had.looks.looks owner g want had.asks had.v had.off x w g answer had.gets rest

  had_plain : (w : PortValue) (answer : Result Resumed Stop) → (is_telling x ≡ true → TypesAgain w (told_word x) g want answer) → TwinResume b w f t i owner answer
  had_plain w answer types =
      twin_again had.v owner t had.looks.looks.look had.asks had.off w answer
      (λ telling. again_behind had.v x g g owner had.referred telling w want answer (types (came_telling had.v x came_x ∙ telling)))

  -- it was counted
  pub last_taken : {y : PortValue} {k : Taken} → TypeTaken x y g owner want (Ok Counted) → k ≡ Counted → LeavesLive x y g k → TakesLast b y f i owner t (Ok (again.Taken g))
  last_taken {y} taken is leaves =
      takes_last
      (λ pages.
      met (typed g want (had_goes pages) (had_asks pages) y taken.takes.serves)
      (had_below pages y taken.takes.serves, gets_on x y owner had.looks had.asks had.off had.inside came_x had.lent taken.takes.hand (ends_live x y g owner want again_some taken.found)))
      (had_found y (Ok (again.Taken g)) (does_as x y _ (λ vs. TypedAgain x.post g owner want (Ok (again.Taken g)) vs) (λ vs took. (refl, took)) taken.found))
      (takes_again had.looks.looks owner had.asks x takes y taken.takes.hand, taken_settled b had.u had.v x y f i t had.word g owner want had.looks had.asks had.off came_x had.lent taken.takes.hand (subst (λ j. LeavesLive x y g j) is leaves))
      (had_plain y (Ok (again.Taken g)) (λ telling. let twin = taken.plain telling in (refl, (twin.0, twin.1), twin.2)))

  -- it came into work, under an untyped reference: the entry has the type count
  pub last_opened : {y : PortValue} {progress : ℕ} {own : Bool} → TypeTaken x y g owner want (Ok (InWork progress own)) → TakesLast b y f i owner t (Ok (again.Opened g progress))
  last_opened {y} {progress} {own} is_taken =
      let taken = took_as (again_in_work x owner had.looks had.asks had.off had.lent y (InWork progress own) is_taken.found progress own refl) is_taken in
      takes_last (λ pages. met (typed g want (had_goes pages) (had_asks pages) y taken.takes.serves) (had_below pages y taken.takes.serves))
      (had_found y (Ok (again.Opened g progress)) (does_as x y _ (λ vs. TypedAgain x.post g owner want (Ok (again.Opened g progress)) vs) (λ vs took. (refl, took)) taken.found)) (opens_from had.looks.looks owner had.asks x takes y progress false taken.takes.hand.1)
      (had_plain y (Ok (again.Opened g progress)) (λ telling. let twin = taken.plain telling in (refl, (twin.0, twin.1), twin.2)))

  pub last_waiting : {y : PortValue} {own : Bool} {stamp : ℕ} {stop : Stop} → TypeTaken x y g owner want (Ok (Waiting own stamp stop)) → TakesLast b y f i owner t (Ok (again.Waiting g stamp stop))
  last_waiting {y} {own} {stamp} {stop} is_taken =
      let taken = took_as (again_waits x owner had.looks had.asks had.off had.lent y (Waiting own stamp stop) is_taken.found own stamp stop refl) is_taken in
      let shows = taken.takes.waits in
      takes_last
      (λ pages.
      met (typed g want (had_goes pages) (had_asks pages) y taken.takes.serves)
      (had_below pages y taken.takes.serves, shows.0, waits_stops g want (had_goes pages) (had_asks pages) y stop shows.0 taken.takes.serves shows.1))
      (had_found y (Ok (again.Waiting g stamp stop)) (does_as x y _ (λ vs. TypedAgain x.post g owner want (Ok (again.Waiting g stamp stop)) vs) (λ vs took. (refl, took)) taken.found))
      (opens_waiting had.looks.looks owner had.asks x takes y false stamp taken.takes.hand)
      (had_plain y (Ok (again.Waiting g stamp stop)) (λ telling. let twin = taken.plain telling in (refl, (twin.0, twin.1), twin.2)))

  -- it is not to be had, and the reference was given back
  pub last_untyped : {y z : PortValue} {e : Stop} → TypeTaken x y g owner want (Err e) → Serves y z (of_back g) [] → Puts y z g → Holds y z (gave g y.holdings) → (is_telling y ≡ true → Leaves z (put g (told_word y))) →
      TakesLast b z f i owner t (Err e)
  last_untyped {y} {z} {e} taken back puts gives leaves =
      takes_last (λ pages. untyped g want (had_goes pages) (had_asks pages) y taken.takes.kinds taken.takes.serves taken.takes.stops back)
      (untaken_found had.looks.looks owner g want had.asks had.v had.off x y z g e had.gets taken.found puts)
      (given_up had.looks.looks owner had.asks x takes y z taken.takes.hand gives)
      (had_plain z (Err e) (λ telling. again_stopped x y z g want telling (serves_came x y (of_frame g owner (Some want)) _ taken.takes.serves) leaves e taken.plain))
