-- The frame that the entry asks is not found live: how it came there.
use Rattle.std.proofs.Common.{Option, ◌≡◌, ℕ, ◌<◌, Bool, true, false, refl, sym, ap, ◌∙◌, subst, ◌+◌, not, [], ◌∷◌, Some, None, Result, Ok, Err, IsTrue, inl}
use Rattle.xp_words.specs.declared.kind.PageType.{PageType}
use Rattle.xp_board.specs.Told.{PortValue, is_telling, told_word}
use Rattle.xp_words.specs.Machine.{IsMachine}
use Rattle.step_maker.specs.Holds.{MayWork, Same, still, FlushedHolds, Holds, quiet}
use Rattle.xp_board.specs.Hands.{refs_to, typed_to, work_on}
use Rattle.xp_board.specs.RefSteps.{SparesClosing}
use Rattle.frame_words.specs.Refs.{Gets, IsRefStop, MayPut, took}
use Rattle.frame_types.specs.Taking.{WaitsWith, CountsAs, IsNotLive, IsOfOther, Looked, ShowsWait, Takes, TakesAs}
use Rattle.xp_words.specs.Entries.{demand_at}
use Rattle.xp_words.specs.PageTypes.{is_none}
use Rattle.xp_words.specs.Places.{sizes_of}
use Rattle.xp_words.specs.declared.entry.Demand.{Demand}
use Rattle.xp_words.specs.declared.entry.Demand.TheVariants.{Bad, Nothing, Typed}
use Rattle.xp_words.specs.declared.place.Place.TheVariants.{Cell, Clock}
use Rattle.xp_words.specs.declared.reply.Refusal.TheVariants.{Reserved}
use Rattle.xp_words.specs.declared.reply.Stop.{Stop}
use Rattle.xp_words.specs.declared.reply.Stop.TheVariants.{Refused}
use Rattle.xp_board.specs.declared.holdings.Liveness.TheVariants.{Found}
use Rattle.xp_board.specs.declared.step.Act.TheVariants.{Load}
use Rattle.xp_board.specs.declared.step.Mark.TheVariants.{Record}
use Rattle.xp_board.specs.KindSteps.{live_typed}
use Rattle.xp_board.specs.Knowledge.{knows_live}
use Rattle.step_maker.specs.Moves.{Came, Met, Moves}
use Rattle.step_maker.specs.Plain.{Leaves, Words}
use Rattle.step_maker.proofs.Coming.{came_trans}
use Rattle.step_maker.proofs.Telling.{came_telling, told_there}
use Rattle.step_maker.specs.Answers.{Serves, Stops, missed}
use Rattle.step_maker.specs.Asked.{Asked, IsDemandOf, of_back, of_frame}
use Rattle.step_maker.specs.Visits.{Does}
use Rattle.step_maker.proofs.Piecing.{serves_came}
use Rattle.kind_words.proofs.KindHands.{known_first}
use Rattle.frame_words.specs.Freeing.{Puts, gave}
use Rattle.frame_words.specs.Plain.{TwinGet, put}
use Rattle.frame_types.specs.Found.{TakesFound}
use Rattle.frame_types.specs.Plain.{TwinTake}
use Rattle.frame_types.specs.declared.taking.Counting.{Counting}
use Rattle.frame_types.specs.declared.taking.Taken.{Taken}
use Rattle.frame_types.specs.declared.taking.Taken.TheVariants.{Counted, InWork}
use Rattle.table_words.specs.Entries.{RecordsNext, entry_recorded}
use Rattle.frame_types.proofs.Coming.{working_same}
use Rattle.table_entries.specs.Asking.{ShowsEntered, of_entries}
use Rattle.table_entries.specs.Between.{HadRef, HandEntered, LooksNext, Meets, TakesNext, TypeTaken}
use Rattle.table_entries.specs.Found.{EntersBy, EntersFound, TypedBy}
use Rattle.table_entries.specs.Plain.{EntersPlainly, TwinEntry, TypesPlainly}
use Rattle.table_entries.specs.declared.entries.Entered.{Entered}
use Rattle.table_entries.specs.declared.entries.Entered.TheVariants.{Opened, Recorded}
use Rattle.table_entries.proofs.Finding.{bad_stopped, enters_by, enters_had, nothing_recorded, typed_opened, typed_recorded, typed_stopped}
use Rattle.table_entries.proofs.HandLists.{asks_below, asks_some}
use Rattle.table_entries.proofs.HandReady.{given_up, nothing_hand, opens_from, take_aside, take_other, typed_from, typed_hand, typed_records}
use Rattle.table_entries.proofs.PiecesAsking.{asks_typed, look_asks, look_bad, look_more, looked_goes}
use Rattle.table_entries.proofs.PiecesEntering.{asks_referred, met, referred, still_below, typed, unmet, unreferred, untyped}
use Rattle.table_entries.proofs.PiecesTaking.{Goes, goes_record, record_shows}
use Rattle.table_entries.proofs.Twins.{load_keeps, twin_entry, typed_behind, types_counted, types_stopped}
use Rattle.xp_board.specs.declared.holdings.OwnerFound.TheVariants as owners
use Rattle.xp_board.specs.declared.step.StepKind.TheVariants as kinds
use Rattle.frame_types.specs.declared.taking.Counting.TheVariants as countings

-- ---- behind the rest of the call, by any way
-- both ports are the one from which the looks went on
pub same_puts : (x v y : PortValue) (g : ℕ) → Same x v → Same x y → g < v.post.machine.frames → MayWork v → MayPut g v.holdings → (g < y.post.machine.frames) × (MayWork y × MayPut g y.holdings)
same_puts x v y g one two lt may gives =
    let e : still v ≡ still y = one ∙ sym two in (
      subst (λ (q : PortValue). g < q.post.machine.frames) e lt,
      (
        record {
          running = ap (λ (q : PortValue). q.holdings.run) (sym e) ∙ may.running;
          no_walk = ap (λ (q : PortValue). q.holdings.walk) (sym e) ∙ may.no_walk;
          machine = subst (λ (q : PortValue). IsMachine q.post.machine) e may.machine;
        },
        record { held = subst (λ (q : PortValue). 0 < refs_to g q.holdings.refs) e gives.held; spares = subst (λ (q : PortValue). SparesClosing g q.holdings) e gives.spares },
      ),
    )

pub waits_may : {x v y : PortValue} {g owner : ℕ} {want : PageType} {own : Bool} {stamp : ℕ} → Same x v → WaitsWith x y g owner want own stamp → MayWork v → MayWork y
waits_may {x} {v} {y} {g} {owner} {want} {own} one w may =
    let e = sym one in
    let h = w.works.hand in
    let k = working_same g owner want own w.work w.works.since x.holdings in
    record {
      running = ap (λ (q : PortValue). q.holdings.run) h ∙ k.0 ∙ ap (λ (q : PortValue). q.holdings.run) e ∙ may.running;
      no_walk = ap (λ (q : PortValue). q.holdings.walk) h ∙ k.1 ∙ ap (λ (q : PortValue). q.holdings.walk) e ∙ may.no_walk;
      machine = subst (λ (q : PortValue). IsMachine q.post.machine) (sym h) (subst (λ (q : PortValue). IsMachine q.post.machine) one may.machine);
    }

-- ---- The next entry: all that its call ensures, by what became of it.
pub takes_next : {v w : PortValue} {f i owner : ℕ} {t : PageType} {answer : Result Entered Stop} → ((pages : ℕ) → Meets v w f i owner pages (λ a. ShowsEntered v w owner pages t a) answer) → EntersFound v w f i t owner answer →
    HandEntered v w f i owner t answer → TwinEntry v w f t i owner answer → TakesNext v w f i owner t answer
takes_next meets found hand plain =
    record {
      serves = λ pages. (meets pages).serves;
      stops = λ pages. (meets pages).stops;
      kinds = (meets 0).kinds;
      shows = λ pages. (meets pages).shows;
      looks = (meets 0).looks;
      found = found;
      hand = hand;
      plain = plain;
    }

-- ---- it asks nothing, or what none may
module _ {b v : PortValue} {f i owner word : ℕ} {t : PageType} (l : LooksNext b v f i owner t word) where
  pub next_nothing : {w : PortValue} {clock : ℕ} → demand_at t i word ≡ Nothing → Moves v w Clock Load kinds.Look (Some (Record f (i + 1))) clock → Holds v w (entry_recorded v.post.machine f v.holdings) → TakesNext b w f i owner t (Ok Recorded)
  next_nothing {w} {clock} asks moves holds =
      takes_next (λ pages. met (goes_record (looked_goes l.looks owner pages) moves) (record_shows (looked_goes l.looks owner pages) moves))
      (enters_by l.looks owner Nothing asks w (Ok Recorded) (nothing_recorded v w f i owner word clock moves)) (nothing_hand l asks w holds)
      (twin_entry owner t l.looks.look asks w (Ok Recorded) (λ telling. (refl, λ q. ap (λ (m : Words). m q) (load_keeps moves telling))))

  pub next_bad : demand_at t i word ≡ Bad → TakesNext b v f i owner t (Err (Refused (Reserved f i word)))
  next_bad asks =
      let answer = Err (Refused (Reserved f i word)) in
      takes_next (λ pages. unmet (looked_goes l.looks owner pages) (look_bad l.looks owner pages l.works.on asks) tt)
      (enters_by l.looks owner Bad asks v answer (bad_stopped v f i owner word)) (word, ap quiet l.looks.hand)
      (λ on.
      let same = load_keeps l.looks.look on in
      let found = ap (λ (m : Words). m (Cell f i)) same ∙ told_there b v (Cell f i) Load kinds.Look None word l.looks.look on in
      twin_entry owner t l.looks.look asks v answer (λ telling. (sym (ap (λ y. Err (Refused (Reserved f i y))) found), λ q. refl)) on)

  -- a reference to the frame that it asks is not to be had
  pub next_unreferred : {x : PortValue} {e : Stop} {d : Demand} → (g : ℕ) (want : Option PageType) → demand_at t i word ≡ d → IsDemandOf g want (Some d) → IsRefStop e → Serves v x (of_frame g owner None) (missed v.post.machine e) →
      Stops v x (of_frame g owner None) e → Same v x → Does v x (λ vs. EntersBy v.post f i owner (Err e) word d vs) → (is_telling v ≡ true → EntersPlainly v.post.machine x (told_word v) f i owner (Err e) d) → TakesNext b x f i owner t (Err e)
  next_unreferred {x} {e} {d} g want asks is kinds serves stops same found plain =
      takes_next
      (λ pages. unreferred g want (looked_goes l.looks owner pages) (look_asks l.looks owner pages l.works.on g want (subst (λ k. IsDemandOf g want (Some k)) (sym asks) is)) (look_more l.looks owner pages) kinds serves stops)
      (enters_by l.looks owner d asks x (Err e) found) (word, ap quiet same ∙ ap quiet l.looks.hand) (twin_entry owner t l.looks.look asks x (Err e) plain)

-- a reference was taken of the frame that the entry names
pub had_ref : {b u : PortValue} {f i owner word n g : ℕ} {t want : PageType} → (x : PortValue) → LooksNext b u f i owner t word → demand_at t i word ≡ Typed n want → (g ≡ n) × (g < u.post.machine.frames) →
    Serves u x (of_frame n owner None) [] → Holds u x (took g owner u.holdings) → TwinGet u x n owner (Ok g) → Gets u x n owner (Ok g) → HadRef b x f i owner t g want
had_ref {b} {u} {f} {i} {owner} {word} {n} {g} {t} {want} x looks asks is refers lent referred gets =
    record {
      u = u;
      word = word;
      looks = looks;
      asks = asks ∙ ap (λ k. Typed k want) (sym is.0);
      inside = is.1;
      refers = subst (λ k. Serves u x (of_frame k owner None) []) (sym is.0) refers;
      lent = lent;
      referred = subst (λ k. TwinGet u x k owner (Ok g)) (sym is.0) referred;
      gets = subst (λ k. Gets u x k owner (Ok g)) (sym is.0) gets;
    }

-- the type was counted, or so taken
pub counted_as : {x y : PortValue} {g owner : ℕ} {want : PageType} → (k : Counting) → k ≡ countings.Counted → CountsAs (Ok k) (λ r. Takes x y g owner want r) (λ n. Looked x y g owner want n) →
    CountsAs (Ok k) (λ r. TakesFound x y g owner want r) (λ n. IsNotLive want n) → CountsAs (Ok k) (λ r. TwinTake x y g want r) (λ n. IsNotLive want n) → TypeTaken x y g owner want (Ok Counted)
counted_as countings.Counted is takes found plain = record { takes = takes; found = found; plain = plain }
counted_as (countings.Found word) is takes found plain = absurd cc

pub found_as : {x y : PortValue} {g owner : ℕ} {want : PageType} → (k : Counting) (word : ℕ) → k ≡ countings.Found word → CountsAs (Ok k) (λ r. Takes x y g owner want r) (λ n. Looked x y g owner want n) →
    CountsAs (Ok k) (λ r. TwinTake x y g want r) (λ n. IsNotLive want n) → Looked x y g owner want word × IsNotLive want word
found_as {x} {y} {g} {owner} {want} k word is looked other = (
  subst (λ (j : Counting). CountsAs (Ok j) (λ r. Takes x y g owner want r) (λ n. Looked x y g owner want n)) is looked,
  subst (λ (j : Counting). CountsAs (Ok j) (λ r. TwinTake x y g want r) (λ n. IsNotLive want n)) is other,
)

pub took_as : {x y : PortValue} {g owner : ℕ} {want : PageType} {k way : Taken} → k ≡ way → TypeTaken x y g owner want (Ok k) → TypeTaken x y g owner want (Ok way)
took_as {x} {y} {g} {owner} {want} is taken = subst (λ (j : Taken). TypeTaken x y g owner want (Ok j)) is taken

pub type_taken : {x y : PortValue} {g owner : ℕ} {want : PageType} {k way : Taken} → k ≡ way → Serves x y (of_frame g owner (Some want)) [] → ShowsWait x y g owner want k → TakesAs x y g owner want k → TakesFound x y g owner want (Ok k) →
    TwinTake x y g want (Ok k) → TypeTaken x y g owner want (Ok way)
type_taken is serves waits hand found plain = took_as is (record { takes = record { serves = serves; stops = tt; kinds = tt; waits = waits; hand = hand }; found = found; plain = plain })

-- by a look at its kind word
pub taken_of : {x v y : PortValue} {g owner kind : ℕ} {want : PageType} {answer : Result Taken Stop} → Looked x v g owner want kind → ((b : PortValue) → Looked b v g owner want kind → Takes b y g owner want answer) →
    ((b : PortValue) → Looked b v g owner want kind → TakesFound b y g owner want answer) → ((b : PortValue) → Looked b v g owner want kind → TwinTake b y g want answer) → TypeTaken x y g owner want answer
taken_of {x} looked takes found plain = record { takes = takes x looked; found = found x looked; plain = plain x looked }

-- ---- behind the reference
module _ {b x : PortValue} {f i owner g : ℕ} {t want : PageType} (had : HadRef b x f i owner t g want) where
  asked : (pages : ℕ) → Asked b.post.machine b.post.vcpu (of_entries owner pages) (Met b had.u) g owner (Some want)
  asked pages = asks_typed had.looks.looks owner pages had.looks.works.on g want had.asks

  pub had_goes : (pages : ℕ) → Goes b x f i owner pages []
  had_goes pages = referred g (Some want) (looked_goes had.looks.looks owner pages) (asked pages) x had.refers

  pub had_asks : (pages : ℕ) → Asked b.post.machine b.post.vcpu (of_entries owner pages) (Met b x) g owner (Some want)
  had_asks pages = asks_referred g (Some want) (looked_goes had.looks.looks owner pages) (asked pages) x had.refers

  pub had_found : (w : PortValue) (answer : Result Entered Stop) → Does x w (λ ts. TypedBy x.post g owner want f i answer ts) → EntersFound b w f i t owner answer
  had_found w answer rest = enters_had had.looks.looks owner had.asks x w g answer had.gets rest

  pub had_plain : (w : PortValue) (answer : Result Entered Stop) → (is_telling x ≡ true → TypesPlainly w (told_word x) g want answer) → TwinEntry b w f t i owner answer
  had_plain w answer types =
      twin_entry owner t had.looks.looks.look had.asks w answer
      (λ telling. typed_behind had.u x g g owner had.referred telling w f i want answer (types (came_telling had.u x (serves_came had.u x (of_frame g owner None) [] had.refers) ∙ telling)))

  -- what the type's call needs
  pub had_some : IsTrue (not (is_none want))
  had_some = asks_some t i had.word g want had.asks

  pub had_aside : work_on g x.holdings.works ≡ None → typed_to g x.holdings.typed ≡ 0
  had_aside none = take_aside had.looks.looks owner had.asks x had.lent none

  pub had_other : IsOfOther g want x.holdings
  had_other = take_other had.looks.looks owner had.asks x had.lent

  -- it was counted
  module _ {y : PortValue} (taken : TypeTaken x y g owner want (Ok Counted)) where
    adds : FlushedHolds had.u y (record had.u.holdings { typed = live_typed g want (owners.Of owner) ∷ had.u.holdings.typed })
    adds = typed_from had.looks.looks owner had.asks x had.lent y (live_typed g want (owners.Of owner)) taken.takes.hand

    came : Came had.u y
    came = came_trans had.u x y (serves_came had.u x (of_frame g owner None) [] had.refers) (serves_came x y (of_frame g owner (Some want)) [] taken.takes.serves)

    known : IsTrue (knows_live (sizes_of y.post.machine) g want y.holdings)
    known = known_first (sizes_of y.post.machine) g want (owners.Of owner) had.u.holdings.typed y.holdings (ap (λ (q : PortValue). q.holdings.typed) adds)

    pub counted_records : RecordsNext y.post.machine f (i + 1) y.holdings
    counted_records = typed_records had.looks y g want Found adds came had.asks (inl known)

    pub next_counted : {w : PortValue} {clock : ℕ} → Moves y w Clock Load kinds.Look (Some (Record f (i + 1))) clock → Holds y w (entry_recorded y.post.machine f y.holdings) → TakesNext b w f i owner t (Ok Recorded)
    next_counted {w} {clock} moves holds =
        takes_next
        (λ pages. let goes = typed g want (had_goes pages) (had_asks pages) y taken.takes.serves in met (goes_record goes moves) (record_shows goes moves))
        (had_found w (Ok Recorded) (typed_recorded x y w g owner want f i clock taken.found moves))
        (had.word, typed_hand had.looks y g want Found adds came had.asks (inl known) w false (ap not known) holds)
        (had_plain w (Ok Recorded)
        (λ telling. types_counted x y w g want (taken.plain telling) (load_keeps moves (came_telling x y (serves_came x y (of_frame g owner (Some want)) [] taken.takes.serves) ∙ telling))))

  -- its frame is to be worked on first
  pub next_opened : {y : PortValue} {progress : ℕ} {own : Bool} → TypeTaken x y g owner want (Ok (InWork progress own)) → TakesNext b y f i owner t (Ok (Opened g progress own))
  next_opened {y} {progress} {own} taken =
      takes_next (λ pages. met (typed g want (had_goes pages) (had_asks pages) y taken.takes.serves) (still_below g want (had_goes pages) (had_asks pages) y taken.takes.serves t (asks_below t i had.word g want had.asks)))
      (had_found y (Ok (Opened g progress own)) (typed_opened x y g owner want f i progress own taken.found))
      (opens_from had.looks.looks owner had.asks x had.lent y progress own taken.takes.hand.1)
      (had_plain y (Ok (Opened g progress own)) (λ telling. let twin = taken.plain telling in (refl, (twin.0, twin.1), twin.2)))

  -- it is not to be had, and the reference was given back
  pub next_untyped : {y z : PortValue} {e : Stop} → TypeTaken x y g owner want (Err e) → Serves y z (of_back g) [] → Puts y z g → Holds y z (gave g y.holdings) → (is_telling y ≡ true → Leaves z (put g (told_word y))) →
      TakesNext b z f i owner t (Err e)
  next_untyped {y} {z} {e} taken back puts gives leaves =
      takes_next (λ pages. untyped g want (had_goes pages) (had_asks pages) y taken.takes.kinds taken.takes.serves taken.takes.stops back)
      (had_found z (Err e) (typed_stopped x y z g owner want f i e taken.found puts))
      (given_up had.looks.looks owner had.asks x had.lent y z taken.takes.hand gives)
      (had_plain z (Err e) (λ telling. types_stopped x y z g want telling (serves_came x y (of_frame g owner (Some want)) _ taken.takes.serves) leaves e taken.plain))
