-- A look at an entry of a frame in the own works changes nothing but what is known of that frame.
use Rattle.std.proofs.Common.{◌≡◌, ℕ, ◌+◌, ◌<◌, false, List, [], ◌∷◌, Option, Some, None, IsTrue, refl, sym, ap, ◌∙◌, subst, arith, Result, zero, suc, ◌≤◌, if◌then◌else◌, Bool, true, Ok, ◌==◌, not}
use Rattle.xp_words.specs.KindWords.{kind_fields, has_form, kind_read}
use Rattle.xp_words.specs.Machine.{Machine}
use Rattle.xp_words.specs.Places.{is_place, sizes_of}
use Rattle.xp_words.specs.declared.place.Place.{Place}
use Rattle.xp_words.specs.declared.place.Place.TheVariants.{Refs, Cell, Kind}
use Rattle.xp_board.specs.declared.holdings.Claimed.{Claimed}
use Rattle.xp_board.specs.declared.holdings.Holdings.{Holdings}
use Rattle.xp_board.specs.declared.holdings.Lock.{Lock}
use Rattle.xp_board.specs.declared.holdings.Unsettled.{Unsettled}
use Rattle.xp_board.specs.declared.holdings.Work.{Work}
use Rattle.xp_board.specs.After.{learned_cell, learned_claim, learned_last, learned_lock, learned_work}
use Rattle.xp_board.specs.Hands.{changed_claim, changed_lock, changed_work, claim_of, claims_of, endings_of, lock_on, locks_on, work_on}
use Rattle.xp_board.specs.Lists.{first_by, EachOf}
use Rattle.xp_board.specs.Readings.{is_locked, is_work, kind_at, ref_count, type_count}
use Rattle.xp_board.specs.Told.{Finds, Post, PortValue}
use Rattle.xp_board.proofs.Counted.{type_below}
use Rattle.xp_board.proofs.KindReadings.{work_count, work_unlive}
use Rattle.xp_board.proofs.ListCounts.{first_by-none}
use Rattle.xp_board.proofs.Sums.{when_eq}
use Rattle.xp_board.proofs.WorkFacts.{Works, works_facts}
use Rattle.xp_board.proofs.Works.{counted_alive, nobody_locks}
use Rattle.step_maker.specs.Moves.{Came, Met, Moment, MovesBy, Ran}
use Rattle.step_maker.proofs.Coming.{came_post, came_self, came_trans}
use Rattle.frame_words.proofs.CellSteps.{learned_apart}
use Rattle.table_entries.proofs.Listing.{each_next, first_is}
use Rattle.level_validate.specs.Tables.{IsLastWord}
use Rattle.xp_words.specs.declared.kind.PageType.{PageType}
use Rattle.xp_words.specs.declared.reply.Stop.{Stop}
use Rattle.step_maker.specs.Finding.{FoundAt}
use Rattle.step_maker.specs.Visits.{Visit, Does, visits}
use Rattle.table_entries.specs.Found.{EnteredBy, EntersFound, ResumedBy, ResumesFound, saw_cell, LastBy, EntersBy, ResumesBy, TypedAgain, TypedBy, other, outside, settled}
use Rattle.table_entries.specs.declared.entries.Entered.{Entered}
use Rattle.table_entries.specs.declared.resuming.Resumed.{Resumed}
use Rattle.std.proofs.lemmas.Bool.Decides.{nat_tests}
use Rattle.xp_words.specs.Entries.{below, demand_at}
use Rattle.xp_words.specs.declared.entry.Demand.{Demand}
use Rattle.xp_words.specs.declared.kind.KindWord.{KindWord}
use Rattle.xp_board.proofs.KindForms.{form_read, frame_inside, partial_form}
use Rattle.kind_words.proofs.KindFacts.{kind_found}
use Rattle.frame_types.specs.Found.{TakesFound, TakesOf, TypeBy, saw_kind}
use Rattle.frame_types.specs.Plain.{IsTakenBy, is_read_first}
use Rattle.frame_types.specs.Standing.{standing_of}
use Rattle.frame_types.specs.Taking.{progress_of, working}
use Rattle.frame_types.specs.declared.standing.Standing.{Standing}
use Rattle.frame_types.specs.declared.taking.Taken.{Taken}
use Rattle.frame_types.specs.declared.taking.Taken.TheVariants.{InWork, Counted, Waiting}
use Rattle.frame_words.specs.Refs.{TakesFirst, had, stopped, took}
use Rattle.table_entries.specs.declared.entries.Entered.TheVariants.{Opened}
use Rattle.table_entries.proofs.HandLists.{asks_below, asks_some}
use Rattle.partial_state.specs.Levels.{level_type}
use Rattle.std.proofs.lemmas.Bool.{or_left}
use Rattle.xp_words.specs.PageTypes.{type_number}
use Rattle.xp_words.specs.declared.reply.Pause.TheVariants.{Flush}
use Rattle.xp_words.specs.declared.reply.Stop.TheVariants.{Refused, Paused}
use Rattle.xp_board.specs.declared.holdings.Reference.{Reference}
use Rattle.step_maker.specs.Holds.{FlushedHolds, quiet}
use Rattle.flush_waits.specs.Waiting.{IsWait}
use Rattle.kind_words.proofs.Leaving.{without_newest}
use Rattle.frame_types.specs.Leaving.{GivesBack, IsWaiting, WaitsFrom}
use Rattle.table_entries.specs.Asking.{IsEntryStop}
use Rattle.table_entries.specs.Tops.{LookedAnd, Opens, as_it_was}
use Rattle.partial_state.proofs.LevelFacts.{level_type-plain}
use Rattle.xp_words.specs.declared.entry.Demand.TheVariants as demands
use Rattle.frame_types.specs.declared.standing.Standing.TheVariants as stands
use Rattle.table_entries.specs.declared.resuming.Resumed.TheVariants as again
use Rattle.xp_words.specs.declared.reply.Refusal.TheVariants as refusals
use Rattle.xp_board.specs.declared.holdings.OwnerFound.TheVariants as owners

-- ---- what the first step shows of the hand before it
pub record FirstFound (u : PortValue) : Type 0 where
  pub place : Place
  pub word : ℕ
  pub finds : Finds u.post.machine u.post.vcpu u.holdings place word

first_by_ran : (u x y : PortValue) (ms : List Moment) → Ran u ms x → (m : Moment) → MovesBy x y m → FirstFound u
first_by_ran u x y [] ran m moves = subst (λ (q : PortValue). FirstFound q) ran (record { place = m.place; word = m.found; finds = moves.moves.finds })
first_by_ran u x y (k ∷ ks) ran m moves = first_by_ran u ran.0 x ks ran.1 k ran.2

pub met_first : (u w : PortValue) (m : Moment) → Met u w m → FirstFound u
unfolding Came
met_first u w m met = let b = met.before in first_by_ran u met.from met.to b.0 b.1 m met.moved

-- the place of a step is one of the machine
pub met_place : (u w : PortValue) (m : Moment) → Met u w m → IsTrue (is_place (sizes_of u.post.machine) m.place)
met_place u w m met = subst (λ (p : Post). IsTrue (is_place (sizes_of p.machine) m.place)) (came_post u met.from met.before) met.moved.moves.may.place

-- ---- neither a lock nor a claim is one of a frame in work
no_claims : (a b : ℕ) → a + b ≡ 0 → b ≡ 0
no_claims a b none = omega arith

module _ {n : Machine} {s : ℕ} {h : Holdings} {p : Place} {w : ℕ} (finds : Finds n s h p w) (f : ℕ) {e : Work} (here : work_on f h.works ≡ Some e) (work : IsTrue (is_work (kind_fields e.word))) where
  facts : Works n finds.words finds.hands s f e
  facts = works_facts n finds.words finds.hands s f e finds.sound finds.real (subst (λ (u : Holdings). work_on f u.works ≡ Some e) (sym finds.mine) here)

  kind_there : kind_at finds.words f ≡ kind_fields e.word
  kind_there = ap kind_fields facts.word

  not_locked : is_locked (kind_at finds.words f) ≡ false
  not_locked = ap is_locked kind_there ∙ rw (work_unlive (kind_fields e.word) work) refl

  no_lock : lock_on f h.locks ≡ None
  no_lock =
      first_by-none (λ (y : Lock). y.frame) f h.locks
      (subst (λ (u : Holdings). locks_on f u.locks ≡ 0) finds.mine (nobody_locks n finds.words finds.hands finds.sound.alone f not_locked s finds.real))

  counted : 0 < ref_count (finds.words (Refs f))
  counted =
      let one : type_count (kind_at finds.words f) ≡ 1 = ap type_count kind_there ∙ work_count (kind_fields e.word) work in
      let low = type_below (sizes_of n) finds.words finds.hands f finds.sound.counts in
      omega (arith, one, low)

  no_claim : claim_of f h.claimed ≡ None
  no_claim =
      first_by-none (λ (y : Claimed). y.frame) f h.claimed
      (subst (λ (u : Holdings). claims_of f u.claimed ≡ 0) finds.mine (no_claims (endings_of f (finds.hands s).ending) (claims_of f (finds.hands s).claimed)
      (counted_alive n finds.words finds.hands finds.sound.alone f s finds.real counted)))

  bare : Holdings
  bare = record h { works = [] }

  nothing_learned : (i word : ℕ) → learned_cell f i word bare ≡ bare
  unfolding bare first_by
  nothing_learned i word = learned_apart f i word bare (record { works = refl; locks = no_lock; claimed = no_claim })

  locks_are : (i word : ℕ) → changed_lock f (learned_lock i word) h.locks ≡ h.locks
  unfolding bare
  locks_are i word = ap (λ (k : Holdings). k.locks) (nothing_learned i word)

  claims_are : (i word : ℕ) → changed_claim f (learned_claim i word) h.claimed ≡ h.claimed
  unfolding bare
  claims_are i word = ap (λ (k : Holdings). k.claimed) (nothing_learned i word)

  pub looked_apart : (i word : ℕ) → learned_cell f i word h ≡ record h { works = changed_work f (learned_work i word) h.works }
  looked_apart i word =
      ap (λ ls. record h { works = changed_work f (learned_work i word) h.works; locks = ls; claimed = changed_claim f (learned_claim i word) h.claimed }) (locks_are i word)
      ∙ ap (λ cs. record h { works = changed_work f (learned_work i word) h.works; claimed = cs }) (claims_are i word)

-- ---- the newest work is changed
-- ---- the last recorded entry, where that one was looked at or another one
pub last_looked : (i n w : ℕ) (u : Option Unsettled) → i + 1 ≡ n → IsLastWord w (learned_last i n w u)
last_looked i n w None is = tt
last_looked i n w (Some u) is = rw (when_eq (i + 1) n is) refl

-- What the steps of a call found, by the list of its visits.
-- ---- each visit was a step of the port
abbrev pub WasFound : PortValue → PortValue → Visit → Type 0
WasFound v w s = FoundAt (Met v w) s.place s.found

pub were_found : (v w x : PortValue) (ms : List Moment) → Ran v ms w → Came w x → EachOf (WasFound v x) (visits ms)
unfolding EachOf Came
were_found v w x [] ran after = tt
were_found v w x (m ∷ ms) ran after = (
  record { moment = m; was = record { from = ran.0; to = w; before = (ms, ran.1); moved = ran.2; after = after }; place = refl; word = refl },
  were_found v ran.0 x ms ran.1 (came_trans ran.0 w x (m ∷ [], (ran.0, refl, ran.2)) after),
)

pub does_shows : {A : Type 0} (v w : PortValue) (P : List Visit → Type 0) → Does v w P → ((vs : List Visit) → EachOf (WasFound v w) vs → P vs → A) → A
unfolding Does
does_shows v w P does so = so (visits does.0) (were_found v w w does.0 does.1 (came_self w)) does.2

-- ---- the look at the entry
module _ (v w : PortValue) (f i : ℕ) (t : PageType) (owner : ℕ) where
  cell_first : (x : ℕ) → FoundAt (Met v w) (Cell f i) x → FirstFound v
  cell_first x found = met_first v w found.moment found.was

  pub entered_first : (answer : Result Entered Stop) → EntersFound v w f i t owner answer → FirstFound v
  entered_first answer enters =
      does_shows v w (λ vs. EnteredBy v.post f i t owner answer vs) enters (λ vs each entered. cell_first entered.0 (first_is (WasFound v w) (saw_cell f i entered.0) _ vs entered.1 each))

  pub resumed_first : (answer : Result Resumed Stop) → ResumesFound v w f i t owner answer → FirstFound v
  resumed_first answer resumes =
      does_shows v w (λ vs. ResumedBy v.post f i t owner answer vs) resumes (λ vs each resumed. cell_first resumed.0 (first_is (WasFound v w) (saw_cell f i resumed.0) _ vs resumed.1 each))

-- An entry whose frame came into the own works: what the steps found of that frame.
-- ---- the kind word that was found
kind_inside : (v w : PortValue) (g x : ℕ) → FoundAt (Met v w) (Kind g) x → g < v.post.machine.frames
kind_inside v w g x found = frame_inside v.post.machine g (subst (λ (p : Place). IsTrue (is_place (sizes_of v.post.machine) p)) found.place (met_place v w found.moment found.was))

progress_by : (w : ℕ) (k : KindWord) (a b : Bool) → kind_read w ≡ Some k → k.validated ≡ a → k.partial ≡ b → (if b then k.progress else 0) ≤ 512
unfolding has_form
progress_by w k a false read v p = omega arith
progress_by w k true true read v p = absurd (let f = form_read w k read in grind (arith, nat_tests))
progress_by w k false true read v p = let few = (partial_form w k read v p).progress in omega (arith, few)

progress_few : (v w : PortValue) (g x : ℕ) → FoundAt (Met v w) (Kind g) x → progress_of (kind_fields x) ≤ 512
progress_few v w g x found =
    let m = found.was in
    let inside = subst (λ (p : Post). g < p.machine.frames) (sym (came_post v m.from m.before)) (kind_inside v w g x found) in
    let finds = subst (λ y. Finds m.from.post.machine m.from.post.vcpu m.from.holdings (Kind g) y) found.word
    (subst (λ (p : Place). Finds m.from.post.machine m.from.post.vcpu m.from.holdings p found.moment.found) found.place m.moved.moves.finds) in
    let k = kind_found m.from.post.machine m.from.post.vcpu m.from.holdings g x inside finds in
    subst (λ y. progress_of y ≤ 512) (sym k.fields) (progress_by x k.kind k.kind.validated k.kind.partial k.read refl refl)

-- ---- how its type was taken
read_first : (want : PageType) (k : KindWord) (s : Standing) (progress : ℕ) (own : Bool) → IsTakenBy want k s (InWork progress own) → (is_read_first want ≡ true) × (progress ≡ progress_of k)
read_first want k stands.Counted progress own way = absurd cc
read_first want k stands.Dead progress own way = (way.0, way.2)
read_first want k stands.Partial progress own way = (way.0, way.2)
read_first want k stands.Busy progress own way = (way.0, way.2)
read_first want k stands.Other progress own way = (way.0, way.2)

pub record CameOpen (v : PortValue) (g : ℕ) (want : PageType) (progress : ℕ) : Type 0 where
  pub inside : g < v.post.machine.frames
  pub read : is_read_first want ≡ true
  pub few : progress ≤ 512

module _ (v w : PortValue) (vs : List Visit) (each : EachOf (WasFound v w) vs) where
  kind_saw : (g owner : ℕ) (want : PageType) (t : Taken) (takes : TakesOf v.post g owner want t vs) → FoundAt (Met v w) (Kind g) takes.word
  kind_saw g owner want t takes = first_is (WasFound v w) (saw_kind g takes.word) _ vs takes.steps each

  pub taken_inside : (g owner : ℕ) (want : PageType) (t : Taken) → TakesOf v.post g owner want t vs → g < v.post.machine.frames
  taken_inside g owner want t takes = kind_inside v w g takes.word (kind_saw g owner want t takes)

  came_open : (g owner : ℕ) (want : PageType) (progress : ℕ) (own : Bool) → TakesOf v.post g owner want (InWork progress own) vs → CameOpen v g want progress
  came_open g owner want progress own takes =
      let read = read_first want (kind_fields takes.word) (standing_of (kind_fields takes.word) want) progress own takes.way in
      let few = progress_few v w g takes.word (kind_saw g owner want (InWork progress own) takes) in
      record { inside = taken_inside g owner want (InWork progress own) takes; read = read.0; few = subst (λ y. y ≤ 512) (sym read.1) few }

pub taken_open : (v w : PortValue) (g owner : ℕ) (want : PageType) (progress : ℕ) (own : Bool) → TakesFound v w g owner want (Ok (InWork progress own)) → CameOpen v g want progress
taken_open v w g owner want progress own found = does_shows v w (λ vs. TypeBy v.post g owner want (Ok (InWork progress own)) vs) found (λ vs each takes. came_open v w vs each g owner want progress own takes)

-- ---- the next entry
module _ (v w : PortValue) (f i : ℕ) (t : PageType) (owner g progress : ℕ) (own : Bool) where
  opened_asked : (h : ℕ) (want : PageType) → want ≡ below t → (vs : List Visit) → EachOf (WasFound v w) vs →
      TakesFirst v.post.machine h owner (λ ts. TypedBy v.post h owner want f i (Ok (Opened g progress own)) ts) (Ok (Opened g progress own)) vs → CameOpen v g (below t) progress
  opened_asked h want is vs each (stopped e answer got) = absurd cc
  opened_asked h want is vs each (had steps) =
      subst (λ k. CameOpen v g k progress) is
      (subst (λ j. CameOpen v j want progress) (sym steps.next.0) (came_open v w steps.after (each_next (WasFound v w) steps each) h owner want progress own steps.next.1))

  opened_by : (word : ℕ) (d : Demand) → demand_at t i word ≡ d → (vs : List Visit) → EachOf (WasFound v w) vs → EntersBy v.post f i owner (Ok (Opened g progress own)) word d vs → CameOpen v g (below t) progress
  opened_by word demands.Nothing is vs each way = absurd (let k = way.0 in cc)
  opened_by word demands.Bad is vs each way = absurd (let k = way.0 in cc)
  opened_by word (demands.Read h) is vs each way = absurd way
  opened_by word (demands.Typed h want) is vs each way = opened_asked h want (asks_below t i word h want is) vs each way

  pub opened_found : EntersFound v w f i t owner (Ok (Opened g progress own)) → CameOpen v g (below t) progress
  opened_found enters =
      does_shows v w (λ vs. EnteredBy v.post f i t owner (Ok (Opened g progress own)) vs) enters
      (λ vs each e. opened_by e.0 (demand_at t i e.0) refl e.1.after (each_next (WasFound v w) e.1 each) e.1.next)

-- ---- the last recorded one again
module _ (v w : PortValue) (f i : ℕ) (t : PageType) (owner : ℕ) (answer : Resumed) (C : Type 0) (stands : answer ≡ again.Settled → C) where
  module _ (typed : (h : ℕ) (want : PageType) → want ≡ below t → (vs : List Visit) → EachOf (WasFound v w) vs → TypedAgain v.post h owner want (Ok answer) vs → C) where
    again_asked : (h : ℕ) (want : PageType) → want ≡ below t → (vs : List Visit) → EachOf (WasFound v w) vs → TakesFirst v.post.machine h owner (λ ts. TypedAgain v.post h owner want (Ok answer) ts) (Ok answer) vs → C
    again_asked h want is vs each (stopped e gave got) = absurd cc
    again_asked h want is vs each (had steps) = typed h want is steps.after (each_next (WasFound v w) steps each) steps.next

    again_last : (h : ℕ) (want : PageType) → want ≡ below t → (vs : List Visit) → EachOf (WasFound v w) vs → LastBy v.post h want owner (Ok answer) vs → C
    again_last h want is vs each (settled x real live gave saw) = stands (let k = gave in cc)
    again_last h want is vs each (outside past way) = again_asked h want is vs each way
    again_last h want is vs each (other x real live steps) = again_asked h want is steps.after (each_next (WasFound v w) steps each) steps.next

    again_by : (word : ℕ) (d : Demand) → demand_at t i word ≡ d → (vs : List Visit) → EachOf (WasFound v w) vs → ResumesBy v.post owner (Ok answer) d vs → C
    again_by word demands.Nothing is vs each way = stands (let k = way.0 in cc)
    again_by word demands.Bad is vs each way = stands (let k = way.0 in cc)
    again_by word (demands.Read h) is vs each way = stands (let k = way.0 in cc)
    again_by word (demands.Typed h want) is vs each way = again_last h want (asks_below t i word h want is) vs each way

    -- by how its type was taken
    pub again_typed : ResumesFound v w f i t owner (Ok answer) → C
    again_typed resumes =
        does_shows v w (λ vs. ResumedBy v.post f i t owner (Ok answer) vs) resumes
        (λ vs each e. again_by e.0 (demand_at t i e.0) refl e.1.after (each_next (WasFound v w) e.1 each) e.1.next)

pub again_found : (v w : PortValue) (f i : ℕ) (t : PageType) (owner g progress : ℕ) → ResumesFound v w f i t owner (Ok (again.Opened g progress)) → CameOpen v g (below t) progress
again_found v w f i t owner g progress resumes =
    again_typed v w f i t owner (again.Opened g progress) (CameOpen v g (below t) progress) (λ is. absurd cc)
    (λ h want is vs each way. subst (λ k. CameOpen v g k progress) is (subst (λ j. CameOpen v j want progress) (sym way.0) (came_open v w vs each h owner want progress false way.1))) resumes

-- ---- it is a table of the level below
pub read_level : (l : ℕ) → 1 ≤ l → is_read_first (below (level_type l)) ≡ true → 2 ≤ l
read_level zero low read = absurd (omega arith)
read_level (suc zero) low read = absurd cc
read_level (suc (suc l)) low read = omega arith

-- The frame of the last recorded entry waits for a flush: it is left as it was found.
pub wait_stops : (e : Stop) → IsWait e → IsEntryStop e
wait_stops (Refused (refusals.Clock x)) wait = tt
wait_stops (Paused (Flush v stamp x)) wait = tt
wait_stops _ wait = absurd wait

-- ---- the frame is one of the machine's
module _ (v w : PortValue) (f i : ℕ) (t : PageType) (owner g : ℕ) where
  pub waited_found : (stamp : ℕ) (stop : Stop) → ResumesFound v w f i t owner (Ok (again.Waiting g stamp stop)) → g < v.post.machine.frames
  waited_found stamp stop resumes =
      again_typed v w f i t owner (again.Waiting g stamp stop) (g < v.post.machine.frames) (λ is. absurd cc)
      (λ h want is vs each way. subst (λ j. j < v.post.machine.frames) (sym way.0) (taken_inside v w vs each h owner want (Waiting false stamp stop) way.1)) resumes

  pub taken_found : ResumesFound v w f i t owner (Ok (again.Taken g)) → g < v.post.machine.frames
  taken_found resumes =
      again_typed v w f i t owner (again.Taken g) (g < v.post.machine.frames) (λ is. absurd cc)
      (λ h want is vs each way. subst (λ j. j < v.post.machine.frames) (sym way.0) (taken_inside v w vs each h owner want Counted way.1)) resumes

-- ---- it waits there since a port that had looked, and had a reference more
module _ {u x : PortValue} {f i : ℕ} {t : PageType} (l : ℕ) {g owner : ℕ} (is : below t ≡ level_type l) (o : Opens u x f i t g owner 0 false true) where
  before : PortValue
  before = record u { holdings = took g owner (learned_cell f i o.word u.holdings) }

  waits_since : WaitsFrom before x g owner (level_type l) false (kind_fields o.work.word).number
  unfolding before
  waits_since =
      record {
        waits = record {
          work = o.work;
          works = record {
            since = o.since;
            taken = o.taken;
            frame = o.frame;
            in_work = o.in_work;
            kind = o.kind ∙ is;
            earlier = o.earlier;
            aside = o.aside;
            hand = subst (λ k. FlushedHolds u x (working g owner k false o.work o.since (took g owner (learned_cell f i o.word u.holdings)))) is o.hand;
          };
          none = o.recorded;
          settled = o.settled refl;
          marked = o.flushed;
          stamped = refl;
          typed = asks_some t i o.word g (level_type l) (o.asks ∙ ap (λ k. demands.Typed g k) is);
          whose = or_left (not (type_number (level_type l) == 5)) false (level_type-plain l);
        };
        lent = record { others = u.holdings.refs; refs = refl };
      }

  pub waits_there : (k : PageType) (stamp : ℕ) → k ≡ level_type l → (kind_fields o.work.word).number ≡ stamp → IsWaiting x g k false stamp
  waits_there k stamp kind number = (before, owner, subst (λ n. WaitsFrom before x g owner k false n) number (subst (λ y. WaitsFrom before x g owner y false (kind_fields o.work.word).number) (sym kind) waits_since))

  pub left_waiting : (w : PortValue) (k : PageType) → k ≡ level_type l → GivesBack x w g k false → LookedAnd u w f i as_it_was
  unfolding before
  left_waiting w k kind gives = (
    o.word,
    gives before owner (kind_fields o.work.word).number (subst (λ y. WaitsFrom before x g owner y false (kind_fields o.work.word).number) (sym kind) waits_since)
        ∙ ap (λ rs. quiet (record u { holdings = record (learned_cell f i o.word u.holdings) { refs = rs } })) (without_newest (λ (y : Reference). y.frame) g (record { frame = g; owner = owners.Of owner }) u.holdings.refs _ refl refl),
  )
