-- The last recorded entry, looked at again: when it is settled, and what is known of the hand where its frame is taken again.
use Rattle.std.proofs.Common.{◌≡◌, ℕ, ◌+◌, ◌-◌, ◌<◌, ◌≤◌, Bool, true, false, List, length, Option, Some, None, IsTrue, refl, sym, ap, ◌∙◌, subst, arith, ◌≢◌, ◌++◌, [], ◌∷◌, Ok, ◌⊎◌, if◌then◌else◌, ◌^◌, ◌&&◌, not, append_assoc, inl, inr}
use Rattle.xp_words.specs.Entries.{demand_at}
use Rattle.xp_words.specs.KindWords.{kind_fields, kind_read, is_kind, kind_write}
use Rattle.xp_words.specs.Machine.{IsMachine, Machine}
use Rattle.xp_words.specs.Places.{Sizes, sizes_of}
use Rattle.xp_words.specs.declared.entry.Demand.TheVariants.{Typed}
use Rattle.xp_words.specs.declared.kind.KindWord.{KindWord}
use Rattle.xp_words.specs.declared.kind.PageType.{PageType}
use Rattle.xp_words.specs.declared.place.Place.TheVariants.{Cell, Kind}
use Rattle.xp_board.specs.declared.step.Act.TheVariants.{Load, Cas, Store}
use Rattle.xp_board.specs.declared.holdings.Holdings.{Holdings}
use Rattle.xp_board.specs.declared.holdings.Made.{Made}
use Rattle.xp_board.specs.declared.holdings.Unsettled.{Unsettled}
use Rattle.xp_board.specs.declared.holdings.Work.{Work}
use Rattle.xp_board.specs.Acts.{left_by}
use Rattle.xp_board.specs.Readings.{is_live_word, is_partial, type_count, is_live}
use Rattle.xp_board.specs.Steps.{some_since}
use Rattle.xp_board.specs.After.{learned_cell, learned_last, learned_work, after_move}
use Rattle.xp_board.specs.Hands.{work_on, lock_on, works_on, without_work}
use Rattle.xp_board.specs.Settling.{is_settled, settles, settles_last}
use Rattle.xp_board.specs.Told.{Post, PortValue, Finds}
use Rattle.xp_board.specs.WellFormed.{WellFormed}
use Rattle.xp_board.proofs.KindForms.{fields_of}
use Rattle.kind_words.proofs.KindFacts.{kind_is_some}
use Rattle.xp_board.proofs.HandLists.{EachOf-first}
use Rattle.xp_board.proofs.ListChanges.{first_by-changed_here}
use Rattle.xp_board.proofs.ListCounts.{first_by-cons_here, first_by-none, first_by-without_other, times_by-without_one}
use Rattle.xp_board.proofs.Sums.{when_eq}
use Rattle.step_maker.specs.Holds.{FlushedHolds, Holds, MayWork, Same, quiet, still}
use Rattle.step_maker.specs.Moves.{Came, Moves, Moment, Ran, Met, MovesBy}
use Rattle.step_maker.proofs.Coming.{came_self, came_trans, moves_came, met_after, met_before, moment_of, moves_met}
use Rattle.flush_waits.proofs.Growing.{came_grows}
use Rattle.xp_board.proofs.StepLists.{since_within}
use Rattle.step_maker.proofs.Noting.{moves_since, moves_steps}
use Rattle.frame_words.specs.Refs.{took}
use Rattle.frame_types.specs.Taking.{LeavesLive, typed_as}
use Rattle.frame_types.specs.declared.taking.Taken.TheVariants.{Counted, InWork, Waiting}
use Rattle.table_entries.specs.Between.{LooksAgain, LooksLive, found, outside, found as was_found, outside as unreal}
use Rattle.table_entries.specs.Tops.{IsSettledNow, LookedAnd, as_it_was}
use Rattle.xp_board.proofs.Learned.{learned_frame}
use Rattle.table_entries.proofs.HandReady.{unmarked_learns}
use Rattle.xp_words.specs.declared.reply.Stop.{Stop}
use Rattle.xp_board.proofs.KindReadings.{dead_count}
use Rattle.step_maker.specs.Visits.{Does, Visit, visit_of, visits, visit}
use Rattle.frame_types.specs.Found.{TakesFound, saw_kind, GoesBy, TakesBy, next_kind}
use Rattle.frame_types.specs.Plain.{IsTakenBy, is_own, stop_by, waits_by}
use Rattle.frame_types.specs.Standing.{standing_of}
use Rattle.frame_types.specs.declared.standing.Standing.{Standing}
use Rattle.frame_types.specs.declared.taking.Taken.{Taken}
use Rattle.frame_types.proofs.Classing.{when_dead, when_partial, when_counted}
use Rattle.table_entries.proofs.LastEntry.{SeenLast, finds_counts, finds_unkept, learned_seen, seen_asks}
use Rattle.std.proofs.lemmas.Bool.{cases_eq}
use Rattle.xp_words.specs.PageTypes.{is_none, is_table}
use Rattle.xp_words.proofs.Shared.{eq_false as when_ne}
use Rattle.xp_board.specs.declared.step.Act.{Act}
use Rattle.xp_board.specs.declared.step.StepKind.{StepKind}
use Rattle.xp_board.specs.KindSteps.{AllowsKind, AllowsKindRow, Live, after_form, after_kind_cas, after_kind_row, after_kind_store, form_of, made_live, still_looking, Count, Locks, Pin, Unpin, Resume, TakeBack, Begin}
use Rattle.xp_board.specs.Legal.{LegalAs}
use Rattle.xp_board.proofs.Works.{one_works}
use Rattle.step_maker.specs.Asked.{IsDemandOf, demand_held}
use Rattle.step_maker.specs.Pauses.{Progress, counts, settles as settled_live}
use Rattle.step_maker.proofs.Progressing.{held_by}
use Rattle.kind_words.specs.Kinds.{live_kind}
use Rattle.kind_words.proofs.KindWriting.{fields_write, live_is}
use Rattle.xp_board.specs.declared.step.StepKind.TheVariants as kinds
use Rattle.frame_types.specs.declared.standing.Standing.TheVariants as stands

-- a look at the frame leaves the hand
pub live_same : (v w : PortValue) (g : ℕ) (live : Bool) → LooksLive v w g live → Same v w
live_same v w g live (outside past is) = ap (λ (q : PortValue). still q) is
live_same v w g live (found word b inside look same is) = same

pub takes_behind : (u v w : PortValue) (g owner : ℕ) → Same u v → Holds v w (took g owner v.holdings) → Holds u w (took g owner u.holdings)
takes_behind u v w g owner same takes = takes ∙ ap (λ (q : PortValue). record q { holdings = took g owner q.holdings }) same

-- ---- the last recorded entry once it was looked at
last_here : (i n w : ℕ) (q : Unsettled) → n ≡ i + 1 → learned_last i n w (Some q) ≡ Some (record q { word = Some w })
last_here i n w q is = rw (when_eq (i + 1) n (sym is)) refl

-- it is settled where what it asks is, of which it was not known since when
settles_by : (z : Sizes) (e : Work) (steps : List Made) (i word : ℕ) (t : PageType) (o : Option Unsettled) → e.recorded ≡ i + 1 → (kind_fields e.word).kind ≡ t →
    ((q : Unsettled) → o ≡ Some q → IsTrue (settles z q.since steps (demand_at t i word))) → IsTrue (settles_last z e steps (learned_last i e.recorded word o))
settles_by z e steps i word t None is kind f = refl
settles_by z e steps i word t (Some q) is kind f =
    let before : e.recorded - 1 ≡ i = omega (arith, is) in
    subst (λ u. IsTrue (settles_last z e steps u)) (sym (last_here i e.recorded word q is))
    (subst (λ n. IsTrue (settles z q.since steps (demand_at (kind_fields e.word).kind n word))) (sym before)
    (subst (λ k. IsTrue (settles z q.since steps (demand_at k i word))) (sym kind) (f q refl)))

module _ {b u : PortValue} {f i : ℕ} {t : PageType} {word : ℕ} (l : LooksAgain b u f i t word) where
  formed : WellFormed b.post.machine b.post.vcpu b.holdings
  formed = let finds = l.looks.look.finds in subst (λ (h : Holdings). WellFormed b.post.machine b.post.vcpu h) finds.mine (finds.sound.formed b.post.vcpu finds.real)

  top_here : work_on f b.holdings.works ≡ Some l.works.top
  top_here = ap (λ ws. work_on f ws) l.works.works ∙ first_by-cons_here (λ (y : Work). y.frame) f l.works.top l.works.others l.works.frame

  since_low : (q : Unsettled) → l.works.top.unsettled ≡ Some q → q.since ≤ length b.holdings.steps
  since_low q at = ((EachOf-first _ (λ (y : Work). y.frame) f l.works.top b.holdings.works formed.works top_here).unsettled q at).1

  pub here_again : work_on f u.holdings.works ≡ Some (learned_work i word l.works.top)
  here_again = ap (λ (q : PortValue). work_on f q.holdings.works) l.looks.hand ∙ first_by-changed_here (λ (y : Work). y.frame) f (learned_work i word) b.holdings.works l.works.top (learned_frame i word) top_here

  settled_top : (z : Sizes) (h : Holdings) → ((n : ℕ) → n ≤ length b.holdings.steps → IsTrue (settles z n h.steps (demand_at t i word))) → IsTrue (is_settled z h (learned_work i word l.works.top))
  unfolding is_settled
  settled_top z h since =
      subst (λ e. IsTrue (is_settled z h e)) (sym (unmarked_learns i word l.works.top l.works.unmarked))
      (settles_by z l.works.top h.steps i word t l.works.top.unsettled l.works.recorded l.works.kind (λ q at. since q.since (since_low q at)))

  -- nothing more was done
  pub looked_again : (v w : PortValue) (g : ℕ) → LooksLive u v g false → Same v w → LookedAnd b w f i as_it_was
  looked_again v w g live same = (word, ap quiet same ∙ ap quiet (live_same u v g false live) ∙ ap quiet l.looks.hand)

  some_same : (e x : Work) → Some e ≡ Some x → e ≡ x
  some_same e x is = cc

  pub settled_now : (x : PortValue) → x.holdings.works ≡ u.holdings.works → ((n : ℕ) → n ≤ length b.holdings.steps → IsTrue (settles (sizes_of x.post.machine) n x.holdings.steps (demand_at t i word))) → IsSettledNow x f
  settled_now x works since e here =
      subst (λ y. IsTrue (is_settled (sizes_of x.post.machine) x.holdings y)) (some_same (learned_work i word l.works.top) e (sym here_again ∙ ap (λ ws. work_on f ws) (sym works) ∙ here))
      (settled_top (sizes_of x.post.machine) x.holdings since)

-- ---- the frame that it asks was found live
found_live : (u v : PortValue) (g : ℕ) (live : Bool) → LooksLive u v g live → live ≡ true → (n : ℕ) → n ≤ length u.holdings.steps → IsTrue (some_since (sizes_of u.post.machine) n (Kind g) is_live_word v.holdings.steps)
unfolding left_by
found_live u v g live (outside past is) on n low = absurd cc
found_live u v g live (found word b inside look same is) on n low = moves_since u v (Kind g) Load kinds.Look None word look n is_live_word low (is ∙ on)

pub live_hand : (b u v : PortValue) (f i : ℕ) (t : PageType) (word g : ℕ) (want : PageType) → LooksAgain b u f i t word → demand_at t i word ≡ Typed g want → LooksLive u v g true → LookedAnd b v f i as_it_was × IsSettledNow v f
live_hand b u v f i t word g want l asks live =
    let same = live_same u v g true live in
    let more : length u.holdings.steps ≡ length b.holdings.steps + 1 = ap (λ xs. length xs) (moves_steps b u (Cell f i) Load kinds.Look None word l.looks.look) ∙ omega arith in (
      (word, ap quiet same ∙ ap quiet l.looks.hand),
      settled_now l v (ap (λ (q : PortValue). q.holdings.works) same)
          (λ n low. subst (λ d. IsTrue (settles (sizes_of v.post.machine) n v.holdings.steps d)) (sym asks)
          (subst (λ (p : Post). IsTrue (some_since (sizes_of p.machine) n (Kind g) is_live_word v.holdings.steps)) (sym (ap (λ (q : PortValue). q.post) same)) (found_live u v g true live refl n (omega (arith, more, low))))),
    )

-- the vCPU may still work
pub may_again : {v : PortValue} {g : ℕ} {live : Bool} → (b u : PortValue) (f i word : ℕ) → Holds b u (learned_cell f i word b.holdings) → LooksLive u v g live → MayWork b → MayWork v
may_again {v} {g} {live} b u f i word hand found_it m =
    let whole = live_same u v g live found_it ∙ hand in
    record {
      running = ap (λ (q : PortValue). q.holdings.run) whole ∙ m.running;
      no_walk = ap (λ (q : PortValue). q.holdings.walk) whole ∙ m.no_walk;
      machine = subst (λ (p : Post). IsMachine p.machine) (sym (ap (λ (q : PortValue). q.post) whole)) m.machine;
    }

-- ---- what a look at the frame found
pub live_as : (v w : PortValue) (g word : ℕ) (live : Bool) (k : KindWord) → Moves v w (Kind g) Load kinds.Look None word → Same v w → g < v.post.machine.frames → kind_read word ≡ Some k → k.validated ≡ live → LooksLive v w g live
live_as v w g word live k look same inside read is = found word live inside look same (ap (λ (y : KindWord). y.validated) (fields_of word k read) ∙ is)

-- a word that is found is read
pub never_unread : (v w : PortValue) (g word : ℕ) → Moves v w (Kind g) Load kinds.Look None word → g < v.post.machine.frames → kind_read word ≡ None → ⊥
never_unread v w g word look inside none = let is = kind_is_some v.post.machine v.post.vcpu v.holdings g word inside look.finds in let never : IsTrue false = rw none at is in absurd cc

-- ---- the frame was taken again
pub live_came : (v w : PortValue) (g : ℕ) (live : Bool) → LooksLive v w g live → Came v w
live_came v w g live (outside past is) = subst (λ (q : PortValue). Came v q) (sym is) (came_self v)
live_came v w g live (found word b inside look same is) = moves_came v w (Kind g) Load kinds.Look None word look

-- the look at the entry was one step more
looked_before : (b u r : PortValue) (f i word : ℕ) → Moves b u (Cell f i) Load kinds.Look None word → Came u r → length b.holdings.steps < length r.holdings.steps
looked_before b u r f i word look came =
    since_within (sizes_of b.post.machine) (length b.holdings.steps) (Cell f i) (λ w. true) r.holdings.steps
    (came_grows u r came _ (moves_since b u (Cell f i) Load kinds.Look None word look (length b.holdings.steps) (λ w. true) (omega arith) refl))

pub taken_settled : (b u v r x : PortValue) (f i : ℕ) (t : PageType) (word g owner : ℕ) (want : PageType) → LooksAgain b u f i t word → demand_at t i word ≡ Typed g want → LooksLive u v g false → Came v r → Holds v r (took g owner v.holdings) →
    FlushedHolds r x (typed_as g owner want r.holdings) → LeavesLive r x g Counted → IsSettledNow x f
taken_settled b u v r x f i t word g owner want l asks live refers takes typed leaves =
    let same = live_same u v g false live in
    let lent = takes_behind u v r g owner same takes in
    let whole = typed ∙ ap (λ (q : PortValue). quiet (record q { holdings = typed_as g owner want q.holdings })) lent in
    let later = looked_before b u r f i word l.looks.look (came_trans u v r (live_came u v g false live) refers) in
    settled_now l x (ap (λ (q : PortValue). q.holdings.works) whole)
    (λ n low. subst (λ d. IsTrue (settles (sizes_of x.post.machine) n x.holdings.steps d)) (sym asks)
    (subst (λ (p : Post). IsTrue (some_since (sizes_of p.machine) n (Kind g) is_live_word x.holdings.steps)) (sym (ap (λ (q : PortValue). q.post) typed)) (leaves n (omega (arith, later, low)))))

-- ---- The frame that a recorded entry asks never comes into work with its own type count: that one is the entry's.
-- ---- the first of the steps found its word in a sound state
first_found : (v w : PortValue) (ms : List Moment) (after : List Visit) (s : Visit) → Ran v ms w → visits ms ≡ after ++ s ∷ [] → Finds v.post.machine v.post.vcpu v.holdings s.place s.found
first_found v w [] [] s ran list = absurd cc
first_found v w [] (q ∷ qs) s ran list = absurd cc
first_found v w (m ∷ []) [] s ran list =
    let is : visit_of m ≡ s = cc in
    subst (λ (q : Visit). Finds v.post.machine v.post.vcpu v.holdings q.place q.found) is (subst (λ (q : PortValue). Finds q.post.machine q.post.vcpu q.holdings m.place m.found) ran.1 ran.2.moves.finds)
first_found v w (m ∷ n ∷ ms) [] s ran list = absurd cc
first_found v w (m ∷ ms) (q ∷ qs) s ran list = first_found v ran.0 ms qs s ran.1 cc

-- ---- whose type count it is
abbrev IsUnowned : Taken → Type 0
IsUnowned Counted = Unit {0}
IsUnowned (InWork progress own) = own ≡ false
IsUnowned (Waiting own stamp stop) = own ≡ false

module _ (k : KindWord) (want : PageType) (counts : 0 < type_count k) (unkept : IsTrue (is_partial k) → k.kept ≡ false) (g x : ℕ) where
  other_count : (s : Standing) → standing_of k want ≡ s → stop_by g want x s ≡ None → s ≢ stands.Counted → is_own k s ≡ false
  other_count stands.Counted is free off = absurd (off refl)
  other_count stands.Dead is free off = let none = dead_count k (when_dead k want is) in absurd (omega (arith, none, counts))
  other_count stands.Partial is free off = unkept (when_partial k want is).partial
  other_count stands.Busy is free off = absurd cc
  other_count stands.Other is free off = absurd cc

  -- it comes into work by its standing
  unowned_by : (s : Standing) (t : Taken) → standing_of k want ≡ s → stop_by g want x s ≡ None → IsTakenBy want k s t → IsUnowned t
  unowned_by s Counted is free way = tt
  unowned_by stands.Counted (InWork progress own) is free way = absurd (let same = way in cc)
  unowned_by stands.Counted (Waiting own stamp stop) is free way = absurd (let same = way in cc)
  unowned_by stands.Dead (InWork progress own) is free way = way.1 ∙ other_count stands.Dead is free (λ same. absurd cc)
  unowned_by stands.Dead (Waiting own stamp stop) is free way = way.1 ∙ other_count stands.Dead is free (λ same. absurd cc)
  unowned_by stands.Partial (InWork progress own) is free way = way.1 ∙ other_count stands.Partial is free (λ same. absurd cc)
  unowned_by stands.Partial (Waiting own stamp stop) is free way = way.1 ∙ other_count stands.Partial is free (λ same. absurd cc)
  unowned_by stands.Busy t is free way = absurd cc
  unowned_by stands.Other t is free way = absurd cc

-- ---- behind the looks at the last recorded entry and at its frame, and the reference
module _ {b u v : PortValue} (r : PortValue) {f i : ℕ} {t : PageType} {word g : ℕ} (owner : ℕ) {want : PageType} (looks : LooksAgain b u f i t word) (asks : demand_at t i word ≡ Typed g want) (other : LooksLive u v g false) (takes : Holds v r (took g owner v.holdings)) where
  seen : SeenLast f i t word r.holdings
  seen =
      let l = looks.works in
      learned_seen f i t word l.top r.holdings
      (ap (λ (q : PortValue). work_on f q.holdings.works) (takes_behind u v r g owner (live_same u v g false other) takes) ∙ here_again looks) l.kind l.table l.unmarked l.recorded

  module _ (x : ℕ) (finds : Finds r.post.machine r.post.vcpu r.holdings (Kind g) x) where
    counts_there : 0 < type_count (kind_fields x)
    counts_there =
        subst (λ y. 0 < type_count (kind_fields y)) finds.word
        (finds_counts finds f i t seen.work seen.here seen.kind seen.table seen.last g want (seen_asks finds seen ∙ asks))

    unkept_there : IsTrue (is_partial (kind_fields x)) → (kind_fields x).kept ≡ false
    unkept_there =
        subst (λ y. IsTrue (is_partial (kind_fields y)) → (kind_fields y).kept ≡ false) finds.word
        (finds_unkept finds f i t seen.work seen.here seen.kind seen.table seen.last g want (seen_asks finds seen ∙ asks))

  again_unowned : (y : PortValue) (way : Taken) → TakesFound r y g owner want (Ok way) → IsUnowned way
  unfolding Does
  again_unowned y way took =
      let a = took.2 in
      let finds = first_found r y took.0 a.steps.after (saw_kind g a.word) took.1 (a.steps.list ∙ ap (λ vs. a.steps.after ++ vs) a.steps.first) in
      unowned_by (kind_fields a.word) want (counts_there a.word finds) (unkept_there a.word finds) g a.word (standing_of (kind_fields a.word) want) way refl a.free a.way

  -- so it came
  module _ (y : PortValue) (way : Taken) (took : TakesFound r y g owner want (Ok way)) where
    pub again_in_work : (progress : ℕ) (own : Bool) → way ≡ InWork progress own → way ≡ InWork progress false
    again_in_work progress own is = is ∙ ap (λ k. InWork progress k) (subst IsUnowned is (again_unowned y way took))

    pub again_waits : (own : Bool) (stamp : ℕ) (stop : Stop) → way ≡ Waiting own stamp stop → way ≡ Waiting false stamp stop
    again_waits own stamp stop is = is ∙ ap (λ k. Waiting k stamp stop) (subst IsUnowned is (again_unowned y way took))

-- ---- A recorded entry is settled: the last of the steps for its frame's type makes the frame live, or counts one type more.
-- ---- the last of the steps
pub record Last (v w : PortValue) (s : Visit) : Type 0 where
  pub moment : Moment
  pub before : PortValue
  pub came : Came v before
  pub moved : MovesBy before w moment
  pub is : visit_of moment ≡ s

first_same : (x y : Visit) (xs ys : List Visit) → x ∷ xs ≡ y ∷ ys → x ≡ y
first_same x y xs ys same = cc

last_of : (v w : PortValue) (ms : List Moment) (s : Visit) (rest : List Visit) → Ran v ms w → visits ms ≡ s ∷ rest → Last v w s
unfolding Came
last_of v w [] s rest ran list = absurd (cc)
last_of v w (m ∷ ms) s rest ran list = record { moment = m; before = ran.0; came = (ms, ran.1); moved = ran.2; is = first_same (visit_of m) s (visits ms) rest list }

module _ {v w : PortValue} {s : Visit} (l : Last v w s) where
  last_met : Met v w l.moment
  last_met = record { from = l.before; to = w; before = l.came; moved = l.moved; after = came_self w }

  last_moves : Moves l.before w s.place s.act l.moment.kind s.mark s.found
  last_moves = subst (λ (q : Visit). Moves l.before w q.place q.act l.moment.kind q.mark q.found) l.is l.moved.moves

  last_came : Came v w
  last_came = came_trans v l.before w l.came (moves_came l.before w s.place s.act l.moment.kind s.mark s.found last_moves)

-- ---- what becomes of the own works
-- a store that leaves the frame live takes it out of them
abbrev Without : ℕ → List Work → List Work → Type 0
Without g xs ys = (ys ≡ xs) ⊎ (ys ≡ without_work g xs)

made_in : (g : ℕ) (l : KindWord) (h : Holdings) → Without g h.works (made_live g l h).works
made_in g l h = elim (cases_eq l.number 1) [ inl one ↦ rw (when_eq l.number 1 one) (inr refl) | inr more ↦ rw (when_ne l.number 1 more) (inr refl) ]

stored_in : (m : Machine) (s g new : ℕ) (o : Option Work) (h : Holdings) → form_of (kind_fields new) ≡ Live → Without g h.works (after_kind_store m s g new o h).works
stored_in m s g new None h live = inl refl
stored_in m s g new (Some e) h live = subst (λ form. Without g h.works (after_form form m s g e (kind_fields new) new h).works) (sym live) (made_in g (kind_fields new) h)

stored_works : (m : Machine) (s g new x : ℕ) (h : Holdings) (kind : StepKind) → LegalAs m s h (Kind g) (Store new) None kind → form_of (kind_fields new) ≡ Live →
    Without g h.works (after_move m s h (Kind g) (Store new) kind None x).works
stored_works m s g new x h kinds.Kind legal live = stored_in m s g new (work_on g h.works) h live
stored_works m s g new x h _ legal live = absurd legal

-- an exchange of a live word leaves them
row_works : (a b c : Bool) (g new : ℕ) (k l : KindWord) (h : Holdings) → (after_kind_row (if a then Locks else if b then Pin else if c then Unpin else Count) g k l new h).works ≡ h.works
row_works true b c g new k l h = refl
row_works false true c g new k l h = refl
row_works false false true g new k l h = refl
row_works false false false g new k l h = refl

exchanged_in : (g x new : ℕ) (h : Holdings) → (kind_fields x).validated ≡ true → (after_kind_cas g x new x h).works ≡ h.works
exchanged_in g x new h live =
    let k = kind_fields x in
    let l = kind_fields new in
    let looked = record h { looking = still_looking g new h.looking } in
    rw (when_eq x x refl)
    (subst (λ on. (after_kind_row (if on then (if l.locked && not k.locked then Locks else if l.pinned && not k.pinned then Pin else if k.pinned && not l.pinned then Unpin else Count) else if k.partial then (if l.partial then TakeBack else Resume) else Begin) g k l new looked).works ≡ h.works) (sym live)
    (row_works (l.locked && not k.locked) (l.pinned && not k.pinned) (k.pinned && not l.pinned) g new k l looked))

exchanged_works : (m : Machine) (s g x new : ℕ) (h : Holdings) (kind : StepKind) → LegalAs m s h (Kind g) (Cas x new) None kind → (kind_fields x).validated ≡ true →
    (after_move m s h (Kind g) (Cas x new) kind None x).works ≡ h.works
exchanged_works m s g x new h kinds.Kind legal live = exchanged_in g x new h live
exchanged_works m s g x new h _ legal live = absurd legal

-- and leaves it live
row_live : (a b c : Bool) (m : Machine) (s g : ℕ) (k l : KindWord) (h : Holdings) → AllowsKindRow (if a then Locks else if b then Pin else if c then Unpin else Count) m s g k l h → l.validated ≡ k.validated
row_live true b c m s g k l h may = ap (λ (y : KindWord). y.validated) may.left
row_live false true c m s g k l h may = ap (λ (y : KindWord). y.validated) may.left
row_live false false true m s g k l h may = ap (λ (y : KindWord). y.validated) may.left
row_live false false false m s g k l h may = ap (λ (y : KindWord). y.validated) may.left

allowed_live : (m : Machine) (s g : ℕ) (h : Holdings) (x new : ℕ) (o p : Option KindWord) → kind_read x ≡ o → kind_read new ≡ p → AllowsKind m s g h o p → (kind_fields x).validated ≡ true → (kind_fields new).validated ≡ true
allowed_live m s g h x new (Some k) (Some l) was is may live =
    let on : k.validated ≡ true = ap (λ (y : KindWord). y.validated) (sym (fields_of x k was)) ∙ live in
    ap (λ (y : KindWord). y.validated) (fields_of new l is)
    ∙ (row_live (l.locked && not k.locked) (l.pinned && not k.pinned) (k.pinned && not l.pinned) m s g k l h
    (subst (λ on. AllowsKindRow (if on then (if l.locked && not k.locked then Locks else if l.pinned && not k.pinned then Pin else if k.pinned && not l.pinned then Unpin else Count) else if k.partial then (if l.partial then TakeBack else Resume) else Begin) m s g k l h) on may) ∙ on)
allowed_live m s g h x new None p was is may live = absurd may
allowed_live m s g h x new (Some k) None was is may live = absurd may

exchanged_live : (m : Machine) (s g x new : ℕ) (h : Holdings) (kind : StepKind) → LegalAs m s h (Kind g) (Cas x new) None kind → (kind_fields x).validated ≡ true → IsTrue (is_live (kind_fields new))
exchanged_live m s g x new h kinds.Kind legal live = allowed_live m s g h x new (kind_read x) (kind_read new) refl refl legal live
exchanged_live m s g x new h _ legal live = absurd legal

-- ---- a frame that is in the own works behind that last step was so before it
still_there : (g f : ℕ) (xs ys : List Work) (e : Work) → works_on f xs ≤ 1 → Without g xs ys → work_on f ys ≡ Some e → work_on f xs ≡ Some e
still_there g f xs ys e few (inl same) here = ap (λ zs. work_on f zs) (sym same) ∙ here
still_there g f xs ys e few (inr out) here =
    let there = ap (λ zs. work_on f zs) (sym out) ∙ here in
    elim (cases_eq f g) [
      | inl is ↦
          let gone = first_by-none (λ (y : Work). y.frame) f (without_work f xs) (times_by-without_one (λ (y : Work). y.frame) f xs few) in
          let none : Some e ≡ None = sym (subst (λ k. work_on f (without_work k xs) ≡ Some e) (sym is) there) ∙ gone in
          absurd (cc)
      | inr off ↦ sym (first_by-without_other (λ (y : Work). y.frame) f g xs off) ∙ there
    ]

module _ (u w : PortValue) (g f new : ℕ) (kind : StepKind) where
  few_works : (a : Act) (x : ℕ) → Moves u w (Kind g) a kind None x → works_on f u.holdings.works ≤ 1
  few_works a x moves =
      let t = moves.finds in
      subst (λ (h : Holdings). works_on f h.works ≤ 1) t.mine (one_works u.post.machine t.words t.hands t.sound.alone f u.post.vcpu t.real)

  stored_there : (x : ℕ) (e : Work) → Moves u w (Kind g) (Store new) kind None x → form_of (kind_fields new) ≡ Live → work_on f w.holdings.works ≡ Some e → work_on f u.holdings.works ≡ Some e
  stored_there x e moves live here =
      still_there g f u.holdings.works w.holdings.works e (few_works (Store new) x moves)
      (subst (λ (q : PortValue). Without g u.holdings.works q.holdings.works) (sym moves.to) (stored_works u.post.machine u.post.vcpu g new x u.holdings kind moves.may.act live)) here

  exchanged_there : (x : ℕ) (e : Work) → Moves u w (Kind g) (Cas x new) kind None x → (kind_fields x).validated ≡ true → work_on f w.holdings.works ≡ Some e → work_on f u.holdings.works ≡ Some e
  exchanged_there x e moves live here =
      ap (λ ws. work_on f ws) (sym (exchanged_works u.post.machine u.post.vcpu g x new u.holdings kind moves.may.act live)) ∙ ap (λ (q : PortValue). work_on f q.holdings.works) (sym moves.to) ∙ here

-- ---- by the steps for a type
-- one count more of a live frame; or it is left live
pub data EndsLive (v w : PortValue) (g : ℕ) : Type 0 where
  by_count : (x new : ℕ) → (kind_fields x).validated ≡ true → Last v w (visit (Kind g) (Cas x new) x) → EndsLive v w g
  by_store : (k : KindWord) (x : ℕ) → IsTrue (is_kind k) → k.validated ≡ true → Last v w (visit (Kind g) (Store (kind_write k)) x) → EndsLive v w g

few_counts : (own : Bool) → (if own then 1 else 2) < 2 ^ 26
few_counts true = omega arith
few_counts false = omega arith

module _ (v w : PortValue) (g owner : ℕ) (want : PageType) (typed : IsTrue (not (is_none want))) (ms : List Moment) (ran : Ran v ms w) (word : ℕ) where
  goes_live : (marked own : Bool) (stamp : ℕ) (after before : List Visit) → GoesBy v.post g owner want marked stamp own Counted after → visits ms ≡ after ++ before → EndsLive v w g
  goes_live marked own stamp after before goes list =
      let ends = goes.next in
      let k = live_kind want (if own then 1 else 2) in
      by_store k ends.0 (live_is want typed (if own then 1 else 2) (few_counts own)) refl
      (last_of v w ms (visit (Kind g) (Store (kind_write k)) ends.0) (goes.before ++ before) ran
      (list ∙ ap (λ (vs : List Visit). vs ++ before) (goes.list ∙ ap (λ (vs : List Visit). vs ++ goes.before) ends.1)))

  by_standing : (s : Standing) (after before : List Visit) → (s ≡ stands.Counted → (kind_fields word).validated ≡ true) → TakesBy v.post g owner want word s Counted after → visits ms ≡ after ++ before → EndsLive v w g
  by_standing stands.Counted after before live only list =
      let new = kind_write (next_kind (kind_fields word) want stands.Counted) in
      by_count word new (live refl) (last_of v w ms (visit (Kind g) (Cas word new) word) before ran (list ∙ ap (λ (vs : List Visit). vs ++ before) only))
  by_standing s after before live steps list =
      let last = steps.next in
      goes_live (waits_by (kind_fields word) want s) (is_own (kind_fields word) s) (kind_fields word).number last.after (last.before ++ (steps.before ++ before)) last.next
      (list ∙ ap (λ (vs : List Visit). vs ++ before) (steps.list ∙ ap (λ (vs : List Visit). vs ++ steps.before) last.list) ∙ ap (λ (vs : List Visit). vs ++ before) (append_assoc last.after last.before steps.before)
      ∙ append_assoc last.after (last.before ++ steps.before) before ∙ ap (λ (vs : List Visit). last.after ++ vs) (append_assoc last.before steps.before before))

pub ends_live : (v w : PortValue) (g owner : ℕ) (want : PageType) → IsTrue (not (is_none want)) → TakesFound v w g owner want (Ok Counted) → EndsLive v w g
unfolding Does
ends_live v w g owner want typed takes =
    let t = takes.2 in
    by_standing v w g owner want typed takes.0 takes.1 t.word (standing_of (kind_fields t.word) want) t.steps.after t.steps.before (λ is. (when_counted (kind_fields t.word) want is).live) t.steps.next t.steps.list

-- ---- behind the looks at the last recorded entry and at its frame
module _ {b u v : PortValue} (r y : PortValue) {f i : ℕ} {t : PageType} {word g : ℕ} (owner : ℕ) {want : PageType} (looks : LooksAgain b u f i t word) (asks : demand_at t i word ≡ Typed g want) (other : LooksLive u v g false) (inside : g < v.post.machine.frames) (came : Came v r) (takes : Holds v r (took g owner v.holdings)) (typed : FlushedHolds r y (typed_as g owner want r.holdings)) where
  table : Work
  table = learned_work i word looks.works.top

  here : work_on f y.holdings.works ≡ Some table
  unfolding table
  here =
      let whole = typed ∙ ap (λ (q : PortValue). quiet (record q { holdings = typed_as g owner want q.holdings })) (takes_behind u v r g owner (live_same u v g false other) takes) in
      ap (λ (q : PortValue). work_on f q.holdings.works) whole ∙ here_again looks

  learns : (P : Work → Type 0) → P (record looks.works.top { seen = Some (record { index = i; word = word }); unsettled = learned_last i looks.works.top.recorded word looks.works.top.unsettled; fixed = table.fixed }) → P table
  unfolding table
  learns P a = subst P (sym (unmarked_learns i word looks.works.top looks.works.unmarked)) a

  asked_there : (h : Holdings) → work_on f h.works ≡ Some table → IsDemandOf g None (demand_held f i word h)
  asked_there h at =
      let w = looks.works in
      let asked = held_by i word (work_on f h.works) table (lock_on f h.locks) (Typed g want) at (learns (λ (e : Work). is_table (kind_fields e.word).kind ≡ true) (ap is_table w.kind ∙ w.table))
      (learns (λ (e : Work). (kind_fields e.word).unflushed ≡ false) w.unmarked) (learns (λ (e : Work). demand_at (kind_fields e.word).kind i word ≡ Typed g want) (ap (λ k. demand_at k i word) w.kind ∙ asks)) in
      subst (IsDemandOf g None) (sym asked) (refl, tt)

  seen_there : table.seen ≡ Some (record { index = i; word = word })
  seen_there = learns (λ (e : Work). e.seen ≡ Some (record { index = i; word = word })) refl

  recorded_there : i < table.recorded
  recorded_there = let n = looks.works.recorded in learns (λ (e : Work). i < e.recorded) (omega (arith, n))

  before_it : Came b r
  before_it = came_trans b u r (moves_came b u (Cell f i) Load kinds.Look None word looks.looks.look) (came_trans u v r (live_came u v g false other) came)

  pub gets_on : EndsLive r y g → Progress (Met b y)
  unfolding moment_of
  gets_on (by_store k x is live l) =
      let m = l.moment in
      let new = kind_write k in
      let left : (kind_fields new).validated ≡ true = ap (λ (q : KindWord). q.validated) (fields_write k is) ∙ live in
      let at = ap (λ (h : Holdings). work_on f h.works) l.moved.hand ∙ stored_there l.before y g f new m.kind x table (last_moves l) (rw left refl) here in
      settled_live m g f new table (record { index = i; word = word }) (met_after b r y m before_it (last_met l)) (ap (λ (q : Visit). q.place) l.is) (ap (λ (q : Visit). q.act) l.is) left at
      seen_there recorded_there (asked_there m.hand at)
  gets_on (by_count x new live l) = counted_on other
    where
      at : work_on f l.moment.hand.works ≡ Some table
      at = ap (λ (h : Holdings). work_on f h.works) l.moved.hand ∙ exchanged_there l.before y g f new l.moment.kind x table (last_moves l) live here

      left : IsTrue (is_live (kind_fields new))
      left = exchanged_live l.before.post.machine l.before.post.vcpu g x new l.before.holdings l.moment.kind (last_moves l).may.act live

      counted_on : LooksLive u v g false → Progress (Met b y)
      counted_on (unreal past is) = let in_it : g < u.post.machine.frames = subst (λ (q : PortValue). g < q.post.machine.frames) is inside in absurd (omega (arith, in_it, past))
      counted_on (was_found x2 _ real look same is) =
          let one = visit (Kind g) (Cas x new) x in
          let saw = met_after b u v (moment_of u (Kind g) Load kinds.Look None x2) (moves_came b u (Cell f i) Load kinds.Look None word looks.looks.look) (moves_met u v (Kind g) Load kinds.Look None x2 look) in
          counts (moment_of u (Kind g) Load kinds.Look None x2) l.moment g f x new table (record { index = i; word = word })
          (met_before b v y (moment_of u (Kind g) Load kinds.Look None x2) saw (came_trans v r y came (last_came l))) refl is (met_after b r y l.moment before_it (last_met l)) (ap (λ (q : Visit). q.place) l.is)
          (ap (λ (q : Visit). q.act) l.is) (ap (λ (q : Visit). q.found) l.is) left at seen_there recorded_there (asked_there l.moment.hand at)
