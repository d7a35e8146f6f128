-- A frame that was found live, and its entry shed by a look at its reference word.
use Rattle.std.proofs.Common.{◌≡◌, ℕ, ◌-◌, ◌<◌, ◌≤◌, if◌then◌else◌, Bool, true, false, List, [], ◌∷◌, length, Option, Some, None, IsTrue, refl, sym, ap, ◌∙◌, subst, arith, ◌≢◌, ◌^◌, ◌==◌, ◌⊎◌, ◌||◌, not, inl, inr}
use Rattle.xp_words.specs.Entries.{demand_at}
use Rattle.xp_words.specs.KindWords.{kind_fields, is_kind, kind_write}
use Rattle.xp_words.specs.Machine.{IsMachine}
use Rattle.xp_words.specs.PageTypes.{is_table}
use Rattle.xp_words.specs.Places.{sizes_of, Sizes}
use Rattle.xp_words.specs.declared.entry.Demand.TheVariants.{Typed}
use Rattle.xp_words.specs.declared.kind.PageType.{PageType}
use Rattle.xp_words.specs.declared.place.Place.TheVariants.{Kind, Clock}
use Rattle.xp_board.specs.declared.holdings.Holdings.{Holdings}
use Rattle.xp_board.specs.declared.holdings.Reference.{Reference}
use Rattle.xp_board.specs.declared.holdings.TypedReference.{TypedReference}
use Rattle.xp_board.specs.declared.holdings.Unsettled.{Unsettled}
use Rattle.xp_board.specs.declared.holdings.Work.{Work}
use Rattle.xp_board.specs.declared.step.Act.TheVariants.{Load}
use Rattle.xp_board.specs.Acts.{left_by}
use Rattle.xp_board.specs.After.{learned_cell}
use Rattle.xp_board.specs.Hands.{brought_as, changed_work, refs_to, typed_owner, typed_to, without_typed, work_on, surely, without_work}
use Rattle.xp_board.specs.KindSteps.{MayDrop, new_work, resumed_kind, unsettled_from}
use Rattle.xp_board.specs.Knowledge.{knows_live}
use Rattle.xp_board.specs.Lists.{changed_by, first_by}
use Rattle.xp_board.specs.Readings.{is_live, is_live_word, kind_at, is_partial, is_work}
use Rattle.xp_board.specs.Recorded.{entry_demand}
use Rattle.xp_board.specs.Settling.{is_settled, settles, settles_last}
use Rattle.xp_board.specs.Told.{Post, PortValue, Finds}
use Rattle.xp_board.proofs.HandLists.{times-changed}
use Rattle.xp_board.proofs.KindReadings.{live_count, partial_parts, resumed_in_work, work_alone, work_unlive}
use Rattle.xp_board.proofs.ListCounts.{first_by-absent, first_by-none, newest_held, first_by-cons_other}
use Rattle.xp_board.proofs.WorkFacts.{works_facts, work_word as works_word}
use Rattle.step_maker.specs.Holds.{Holds, MayWork, Same, still}
use Rattle.step_maker.specs.Moves.{Moves}
use Rattle.flush_words.proofs.Lasting.{moves_longer}
use Rattle.frame_words.specs.Freeing.{gave}
use Rattle.frame_words.specs.Refs.{MayPut}
use Rattle.frame_words.proofs.Putting.{without_newest}
use Rattle.kind_words.proofs.KindFacts.{live_apart, clock_is_small, partial_apart, read_is}
use Rattle.kind_words.proofs.KindHands.{apart_spares, typed_held, resumed_fields, resumed_unkept, work_here}
use Rattle.frame_types.specs.Lowering.{DropsType, closing_from, closing_in, uncounted}
use Rattle.frame_types.specs.Taking.{MayDropPlain, gave_type}
use Rattle.frame_types.proofs.Lowered.{closed_is, closed_kind, closed_unmarked, type_closed, type_counted}
use Rattle.table_entries.specs.Tops.{with_recorded}
use Rattle.table_entries.proofs.HandLists.{asks_below, asks_some}
use Rattle.table_entries.proofs.LastEntry.{SeenLast, finds_counts, seen_asks, seen_sheds, finds_leads}
use Rattle.table_entries.proofs.Shared.{no_looks as looks_none}
use Rattle.table_words.specs.Entries.{entry_shed}
use Rattle.table_words.proofs.Shedding.{none_unsettled, settled_by_step, shed_settled_known}
use Rattle.table_releases.specs.Between.{SeesKind, SeesTyped, Resumed}
use Rattle.table_releases.specs.Tops.{Reopens, StaysRecorded, shed_once, IsSince}
use Rattle.table_releases.proofs.FrameSeen.{found_kind, found_unkept, from_seen, kind_post, now_seen, seen_same}
use Rattle.table_releases.proofs.Looking.{shed_typed}
use Rattle.xp_words.specs.declared.kind.KindWord.{KindWord}
use Rattle.xp_board.specs.declared.step.Mark.TheVariants.{Shed}
use Rattle.xp_board.specs.Steps.{some_since}
use Rattle.xp_board.proofs.KindForms.{PartialForm, fields_of, partial_form}
use Rattle.xp_board.proofs.Sums.{when_eq}
use Rattle.step_maker.proofs.Noting.{moves_since}
use Rattle.kind_words.specs.Kinds.{MayLeave, dead_kind, left}
use Rattle.kind_words.proofs.Leaving.{left_dead, may_leave_dead}
use Rattle.table_releases.specs.Found.{has_recorded}
use Rattle.table_releases.proofs.Recording.{recorded_some, recorded_table, recorded_none}
use Rattle.xp_board.specs.declared.step.StepKind.TheVariants as kinds
use Rattle.xp_words.specs.PageTypes as types
use Rattle.xp_words.proofs.Shared.{eq_false as when_ne}

-- ---- lists

pub none_after : {A : Type 0} (key : A → ℕ) (g f : ℕ) (change : A → A) (xs : List A) → ((x : A) → key (change x) ≡ key x) → first_by key g xs ≡ None → first_by key g (changed_by key f change xs) ≡ None
none_after key g f change xs kept none = first_by-none key g (changed_by key f change xs) (times-changed key g f change xs kept ∙ first_by-absent key g xs none)

module _ {b v : PortValue} {f i : ℕ} {t : PageType} {word g : ℕ} {want : PageType} {x : ℕ} (l : SeesKind b v f i t word g want x) where
  -- the hand, from before the looks
  pub hand_behind : (w : PortValue) (r : List Reference → List Reference) (y : List TypedReference → List TypedReference) (e : List Work → List Work) →
      Holds v w (record v.holdings { refs = r v.holdings.refs; typed = y v.holdings.typed; works = e v.holdings.works }) →
      Holds b w (record (learned_cell f i word b.holdings) { refs = r b.holdings.refs; typed = y b.holdings.typed; works = e (learned_cell f i word b.holdings).works })
  hand_behind w r y e holds =
      holds ∙ ap (λ (q : PortValue). still (record q { holdings = record q.holdings { refs = r q.holdings.refs; typed = y q.holdings.typed; works = e q.holdings.works } })) l.same
      ∙ ap (λ (q : PortValue). still (record q { holdings = record q.holdings { refs = r q.holdings.refs; typed = y q.holdings.typed; works = e q.holdings.works } })) l.sees.sees.hand

  -- nothing but the recorded entries is changed
  abbrev pub shed_works : List Work → List Work
  shed_works ws = changed_work f (λ (e : Work). record e { recorded = i; unsettled = None }) ws

  module _ (live : is_live_word x ≡ true) where
    abbrev pub seen : SeenLast f i t word v.holdings
    seen = now_seen l

    -- ---- the entry is settled by the look that found its frame live
    abbrev first : SeenLast f i t word l.from.holdings
    first = from_seen l

    low_since : (u : Unsettled) → first.work.unsettled ≡ Some u → u.since ≤ length l.from.holdings.steps
    low_since u at =
        let finds = l.look.finds in
        let mine : work_on f (finds.hands l.from.post.vcpu).works ≡ Some first.work = ap (λ (k : Holdings). work_on f k.works) finds.mine ∙ first.here in
        let facts = works_facts l.from.post.machine finds.words finds.hands l.from.post.vcpu f first.work finds.sound finds.real mine in
        subst (λ (k : Holdings). u.since ≤ length k.steps) finds.mine (facts.formed.unsettled u at).1

    settled_then : (o : Option Unsettled) → first.work.unsettled ≡ o → IsTrue (is_settled (sizes_of l.from.post.machine) v.holdings first.work)
    unfolding left_by
    settled_then None at = none_unsettled (sizes_of l.from.post.machine) v.holdings first.work at
    settled_then (Some u) at =
        let before : first.work.recorded - 1 ≡ i = let n = first.last in omega (arith, n) in
        settled_by_step l.from v first.work u.since word g want Load kinds.Look None x l.look live
        (at ∙ ap (λ o. Some (record u { word = o })) (first.loaded u at))
        (ap (λ k. demand_at k (first.work.recorded - 1) word) first.kind ∙ ap (λ n. demand_at t n word) before ∙ l.sees.asks)
        (low_since u at)

    now_settled : IsTrue (is_settled (sizes_of v.post.machine) v.holdings seen.work)
    now_settled = subst (λ (p : Post). IsTrue (is_settled (sizes_of p.machine) v.holdings seen.work)) (sym (ap (λ (q : PortValue). q.post) l.same)) (settled_then first.work.unsettled refl)

    -- ---- and nobody works on it
    is_here : IsTrue (is_live (kind_at l.look.finds.words g))
    is_here = subst (λ n. IsTrue (is_live (kind_fields n))) (sym l.look.finds.word) live

    asked : entry_demand l.look.finds.words f i ≡ Typed g want
    asked = seen_asks l.look.finds first ∙ l.sees.asks

    x_counts : 0 < (kind_fields x).number
    x_counts =
        let some = finds_counts l.look.finds f i t first.work first.here first.kind first.table first.last g want asked in
        subst (λ n. 0 < (kind_fields n).number) l.look.finds.word (subst (λ n. 0 < n) (live_count (kind_at l.look.finds.words g) is_here) some)

    v_apart : work_on g v.holdings.works ≡ None
    v_apart = ap (λ (q : PortValue). work_on g q.holdings.works) l.same ∙ live_apart l.from.post.machine l.from.post.vcpu l.from.holdings g x (kind_fields x) l.look.finds refl live x_counts

  -- ---- shed
  module _ (live : is_live_word x ≡ true) (w : PortValue) (shed : Holds v w (entry_shed v.post.machine f i v.holdings)) where
    abbrev pub newest : TypedReference
    newest = brought_as (is_settled (sizes_of v.post.machine) v.holdings (seen live).work) g want v.holdings

    pub live_shed : Holds v w (record (with_recorded f i None v.holdings) { typed = newest ∷ v.holdings.typed })
    live_shed = shed_typed v w (seen live) shed g want l.sees.asks

    pub live_post : w.post ≡ v.post
    live_post = ap (λ (q : PortValue). q.post) live_shed

    known_there : IsTrue (knows_live (sizes_of v.post.machine) g want w.holdings)
    known_there =
        shed_settled_known v w f i g want (seen_sheds f i t word v.holdings (seen live)) (ap (λ k. demand_at k i word) (seen live).kind ∙ l.sees.asks) shed (now_settled live)

    pub live_known : IsTrue (knows_live (sizes_of w.post.machine) g want w.holdings)
    live_known = subst (λ (p : Post). IsTrue (knows_live (sizes_of p.machine) g want w.holdings)) (sym live_post) known_there

    pub live_held : 0 < typed_to g w.holdings.typed
    live_held = subst (λ xs. 0 < typed_to g xs) (sym (ap (λ (q : PortValue). q.holdings.typed) live_shed)) (typed_held g newest v.holdings.typed refl)

    pub live_apart_then : work_on g w.holdings.works ≡ None
    live_apart_then =
        ap (λ (q : PortValue). work_on g q.holdings.works) live_shed ∙ none_after (λ (e : Work). e.frame) g f (λ e. record e { recorded = i; unsettled = None }) v.holdings.works (λ e. refl) (v_apart live)

    pub live_may : MayWork v → MayWork w
    live_may m =
        record {
          running = ap (λ (q : PortValue). q.holdings.run) live_shed ∙ m.running;
          no_walk = ap (λ (q : PortValue). q.holdings.walk) live_shed ∙ m.no_walk;
          machine = subst (λ (p : Post). IsMachine p.machine) (sym live_post) m.machine;
        }

    pub live_drops : MayDrop w.post.machine g w.holdings
    live_drops = record { in_hand = live_held; kind = want; live = live_known }

    pub live_drops_plain : is_table want ≡ false → MayDropPlain w.post.machine g want w.holdings
    live_drops_plain plain = record { held = live_held; live = live_known; plain = plain; apart = live_apart_then }

    -- ---- and then
    no_typed : without_typed g (newest ∷ v.holdings.typed) ≡ v.holdings.typed
    no_typed = without_newest (λ (e : TypedReference). e.frame) g newest v.holdings.typed refl

    -- a frame without entries was given back
    pub plain_given : (z : PortValue) → Holds w z (gave_type g w.holdings) → Holds b z (shed_once f i word b.holdings)
    plain_given z given =
        hand_behind z (λ rs. rs) (λ ys. ys) shed_works
        (given ∙ ap (λ (q : PortValue). still (record q { holdings = gave_type g q.holdings })) live_shed ∙ ap (λ xs. still (record v { holdings = record (with_recorded f i None v.holdings) { typed = xs } })) no_typed)

    -- a table with other type counts
    module _ (z : PortValue) (drops : DropsType w z g false) where
      abbrev left_ref : Reference
      left_ref = record { frame = g; owner = typed_owner g w.holdings }

      counted : Holds v z (record (with_recorded f i None v.holdings) { refs = left_ref ∷ v.holdings.refs })
      counted =
          type_counted w z g false drops refl ∙ ap (λ (q : PortValue). still (record q { holdings = record q.holdings { refs = left_ref ∷ q.holdings.refs; typed = without_typed g q.holdings.typed } })) live_shed
          ∙ ap (λ xs. still (record v { holdings = record (with_recorded f i None v.holdings) { refs = left_ref ∷ v.holdings.refs; typed = xs } })) no_typed

      pub counted_gives : MayPut g z.holdings
      counted_gives =
          record {
            held = subst (λ rs. 0 < refs_to g rs) (sym (ap (λ (q : PortValue). q.holdings.refs) counted)) (newest_held g left_ref v.holdings.refs refl);
            spares = apart_spares g z.holdings (ap (λ (q : PortValue). work_on g q.holdings.works) (type_counted w z g false drops refl) ∙ live_apart_then);
          }

      pub counted_given : (q : PortValue) → Holds z q (gave g z.holdings) → Holds b q (shed_once f i word b.holdings)
      counted_given q given =
          hand_behind q (λ rs. rs) (λ ys. ys) shed_works
          (given ∙ ap (λ (y : PortValue). still (record y { holdings = gave g y.holdings })) counted
          ∙ ap (λ rs. still (record v { holdings = record (with_recorded f i None v.holdings) { refs = rs } })) (without_newest (λ (e : Reference). e.frame) g left_ref v.holdings.refs refl))

    -- a table that is closing then
    module _ (z : PortValue) (drops : DropsType w z g true) (table : is_table want ≡ true) where
      abbrev closing : Work
      closing = closing_from g drops.found w.holdings

      abbrev pub closed_ref : Reference
      closed_ref = record { frame = g; owner = typed_owner g w.holdings }

      pub closed : Holds v z (record (with_recorded f i None v.holdings) { refs = closed_ref ∷ v.holdings.refs; works = closing ∷ (with_recorded f i None v.holdings).works })
      closed =
          type_closed w z g true drops refl
          ∙ ap (λ (q : PortValue). still (record q { holdings = record q.holdings { refs = closed_ref ∷ q.holdings.refs; typed = without_typed g q.holdings.typed; works = closing ∷ q.holdings.works } })) live_shed
          ∙ ap (λ xs. still (record v { holdings = record (with_recorded f i None v.holdings) { refs = closed_ref ∷ v.holdings.refs; typed = xs; works = closing ∷ (with_recorded f i None v.holdings).works } })) no_typed

      abbrev with_closing : Holdings → Holdings
      with_closing h = record (with_recorded f i None h) { refs = closed_ref ∷ h.refs; works = closing ∷ (with_recorded f i None h).works }

      pub closed_opens : Reopens b z f i t g 512 true
      closed_opens =
          let is = asks_below t i word g want l.sees.asks in
          let kind : (kind_fields drops.found).kind ≡ want = drops.lowers.kind want live_known in
          record {
            word = word;
            asks = l.sees.asks ∙ ap (λ k. Typed g k) is;
            inside = l.sees.inside;
            work = closing;
            frame = refl;
            kind = closed_kind w z g true drops refl want live_known ∙ is;
            table = subst (λ k. IsTrue (is_table k)) is table;
            closing_is = closed_is w z g true drops refl;
            in_work = λ off. absurd cc;
            unmarked = closed_unmarked w z g true drops refl;
            recorded_is = rw (kind, table) refl;
            some = omega arith;
            few = omega arith;
            settled = λ on. refl;
            earlier = let more = moves_longer w z _ _ _ _ _ drops.lowers.step in omega (arith, more);
            since = λ off. absurd cc;
            after = with_closing (learned_cell f i word b.holdings);
            holding = record { untyped = λ on. (closed_ref, refl, refl); typed = λ off. absurd cc };
            hand = hand_behind z (λ rs. closed_ref ∷ rs) (λ ys. ys) (λ ws. closing ∷ shed_works ws) closed;
          }

-- the vCPU may still work
pub may_dropped : (v w : PortValue) (g : ℕ) (last : Bool) → DropsType v w g last → MayWork v → MayWork w
may_dropped v w g last d m =
    record {
      running = by_run last d.hand ∙ m.running;
      no_walk = by_walk last d.hand ∙ m.no_walk;
      machine = subst (λ (p : Post). IsMachine p.machine) (sym (by_post last d.hand)) m.machine;
    }
  where
    by_run : (b : Bool) → Holds v w (if b then closing_in g d.found v.holdings else uncounted g v.holdings) → w.holdings.run ≡ v.holdings.run
    by_run true h = ap (λ (q : PortValue). q.holdings.run) h
    by_run false h = ap (λ (q : PortValue). q.holdings.run) h

    by_walk : (b : Bool) → Holds v w (if b then closing_in g d.found v.holdings else uncounted g v.holdings) → w.holdings.walk ≡ v.holdings.walk
    by_walk true h = ap (λ (q : PortValue). q.holdings.walk) h
    by_walk false h = ap (λ (q : PortValue). q.holdings.walk) h

    by_post : (b : Bool) → Holds v w (if b then closing_in g d.found v.holdings else uncounted g v.holdings) → w.post ≡ v.post
    by_post true h = ap (λ (q : PortValue). q.post) h
    by_post false h = ap (λ (q : PortValue). q.post) h

-- ---- a look at the kind word behind the one at the entry
pub sees_kind : {v b u : PortValue} {f i word g x : ℕ} {t want : PageType} → SeesTyped b v f i t word g want → Moves v u (Kind g) Load kinds.Look None x → Same v u → SeesKind b u f i t word g want x
sees_kind {v} l look same = record { from = v; sees = l; look = look; same = same }

-- nothing more was done
pub stays_recorded : {word : ℕ} {b v : PortValue} {f i g x : ℕ} {t want : PageType} → SeesKind b v f i t word g want x → StaysRecorded b v f i
stays_recorded {word} l = (word, l.same ∙ l.sees.sees.hand)

-- ---- A partial frame that came into the own works, and its entry shed then.
-- the frame of the unsettled entry was not found live
unsettled_by : (z : Sizes) (h : Holdings) (e : Work) (u : Unsettled) (word g : ℕ) (t : PageType) → e.unsettled ≡ Some (record { since = u.since; word = Some word }) → demand_at (kind_fields e.word).kind (e.recorded - 1) word ≡ Typed g t →
    some_since z u.since (Kind g) is_live_word h.steps ≡ false → is_settled z h e ≡ false
unfolding is_settled
unsettled_by z h e u word g t unsettled asks unfound =
    subst (λ o. settles_last z e h.steps o ≡ false) (sym unsettled) (subst (λ d. settles z u.since h.steps d ≡ false) (sym asks) unfound)

changed_behind : (f : ℕ) (change : Work → Work) (e : Work) (xs : List Work) → e.frame ≢ f → changed_work f change (e ∷ xs) ≡ e ∷ changed_work f change xs
unfolding changed_by
changed_behind f change e xs off = rw (when_ne e.frame f off) refl

module _ {b v : PortValue} {f i : ℕ} {t : PageType} {word g : ℕ} {want : PageType} {k : KindWord} (r : Resumed b v f i t word g want k) where
  abbrev came : PortValue
  came = r.from

  is_spelled : IsTrue (is_kind k)
  is_spelled = (read_is r.found k r.read).0

  kind_is : k.kind ≡ want
  kind_is = found_kind r.sees k r.read

  form : PartialForm k
  form = let parts = partial_parts k r.partial in partial_form r.found k r.read parts.0 parts.1

  abbrev pub new : Work
  new = new_work g (kind_write (resumed_kind k)) k.progress (unsettled_from k.progress r.from.holdings) r.from.holdings

  new_fields : kind_fields new.word ≡ resumed_kind k
  new_fields = resumed_fields k is_spelled r.partial

  pub new_in_work : IsTrue (is_work (kind_fields new.word))
  new_in_work = subst (λ y. IsTrue (is_work y)) (sym new_fields) (resumed_in_work k r.partial)

  pub new_kind : (kind_fields new.word).kind ≡ want
  new_kind = ap (λ (x : KindWord). x.kind) new_fields ∙ kind_is

  no_looking : r.from.holdings.looking ≡ []
  no_looking = ap (λ (q : PortValue). q.holdings.looking) r.sees.same ∙ ap (λ (q : PortValue). q.holdings.looking) r.sees.sees.sees.hand ∙ r.sees.sees.sees.looked

  pub came_in : Holds r.from v (record r.from.holdings { works = new ∷ r.from.holdings.works })
  came_in =
      r.hand ∙ ap (λ (h : Holdings). still (record r.from { holdings = h })) (resumed_unkept g k r.from.holdings (found_unkept r.sees k r.read r.partial))
      ∙ ap (λ ys. still (record r.from { holdings = record r.from.holdings { looking = ys; works = new ∷ r.from.holdings.works } })) (looks_none g (kind_write (resumed_kind k)) r.from.holdings.looking no_looking)

  apart : work_on g r.from.holdings.works ≡ None
  apart =
      ap (λ (q : PortValue). work_on g q.holdings.works) r.sees.same
      ∙ partial_apart r.sees.from.post.machine r.sees.from.post.vcpu r.sees.from.holdings g r.found k r.sees.look.finds (fields_of r.found k r.read) r.partial

  abbrev before : SeenLast f i t word r.from.holdings
  before = now_seen r.sees

  other : g ≢ f
  other same = let here : work_on g r.from.holdings.works ≡ Some before.work = subst (λ n. work_on n r.from.holdings.works ≡ Some before.work) (sym same) before.here in let both : None ≡ Some before.work = sym apart ∙ here in cc

  same_works : work_on f v.holdings.works ≡ work_on f r.from.holdings.works
  same_works = ap (λ (q : PortValue). work_on f q.holdings.works) came_in ∙ first_by-cons_other (λ (e : Work). e.frame) f new r.from.holdings.works other

  pub resumed_seen : SeenLast f i t word v.holdings
  resumed_seen = seen_same f i t word r.from.holdings v.holdings same_works before

  pub resumed_post : v.post ≡ b.post
  resumed_post = ap (λ (q : PortValue). q.post) came_in ∙ kind_post r.sees

  -- the entry is not settled: its frame is in work, and was not found live
  still_unsettled : (p : _) (y : ℕ) (mark : _) {w : PortValue} → Moves v w p Load kinds.Look mark y → is_settled (sizes_of v.post.machine) v.holdings resumed_seen.work ≡ false
  still_unsettled p y mark step =
      by_way
      (finds_leads finds f i t resumed_seen.work resumed_seen.here resumed_seen.kind resumed_seen.table resumed_seen.last g want (seen_asks finds resumed_seen ∙ r.sees.sees.asks))
    where
      finds : Finds v.post.machine v.post.vcpu v.holdings p y
      finds = step.finds

      mine : work_on g (finds.hands v.post.vcpu).works ≡ Some new
      mine = ap (λ (u : Holdings). work_on g u.works) finds.mine ∙ work_here g new r.from.holdings.works v.holdings.works refl (ap (λ (q : PortValue). q.holdings.works) came_in)

      working : IsTrue (is_work (kind_at finds.words g))
      working =
          subst (λ y. IsTrue (is_work y)) (sym (works_word v.post.machine finds.words finds.hands v.post.vcpu g new (works_facts v.post.machine finds.words finds.hands v.post.vcpu g new finds.sound finds.real mine))) new_in_work

      by_way : IsTrue (is_live (kind_at finds.words g))
          ⊎ (IsTrue (is_partial (kind_at finds.words g) || is_work (kind_at finds.words g)) × ((u : Unsettled) × (resumed_seen.work.unsettled ≡ Some u) × (some_since (sizes_of v.post.machine) u.since (Kind g) is_live_word v.holdings.steps ≡ false))) →
          is_settled (sizes_of v.post.machine) v.holdings resumed_seen.work ≡ false
      by_way (inl live) = absurd (let dead = work_unlive (kind_at finds.words g) working in cc)
      by_way (inr (form, (u, at, unfound))) =
          unsettled_by (sizes_of v.post.machine) v.holdings resumed_seen.work u word g want (at ∙ ap (λ o. Some (record u { word = o })) (resumed_seen.loaded u at))
          (let before : resumed_seen.work.recorded - 1 ≡ i = (let n = resumed_seen.last in omega (arith, n)) in
          ap (λ k. demand_at k (resumed_seen.work.recorded - 1) word) resumed_seen.kind ∙ ap (λ n. demand_at t n word) before ∙ r.sees.sees.asks)
          unfound

  -- ---- shed
  module _ (w : PortValue) (shed : Holds v w (entry_shed v.post.machine f i v.holdings)) where
    abbrev pub resumed_newest : TypedReference
    resumed_newest = brought_as (is_settled (sizes_of v.post.machine) v.holdings resumed_seen.work) g want v.holdings

    abbrev shed_all : List Work → List Work
    shed_all ws = shed_works r.sees ws

    pub resumed_shed : Holds r.from w (record r.from.holdings { typed = resumed_newest ∷ r.from.holdings.typed; works = new ∷ shed_all r.from.holdings.works })
    resumed_shed =
        shed_typed v w resumed_seen shed g want r.sees.sees.asks
        ∙ ap (λ (q : PortValue). still (record q { holdings = record q.holdings { typed = resumed_newest ∷ q.holdings.typed; works = shed_all q.holdings.works } })) came_in
        ∙ ap (λ ws. still (record r.from { holdings = record r.from.holdings { typed = resumed_newest ∷ r.from.holdings.typed; works = ws } })) (changed_behind f (λ (e : Work). record e { recorded = i; unsettled = None }) new r.from.holdings.works other)

    shed_held : 0 < typed_to g w.holdings.typed
    shed_held = subst (λ xs. 0 < typed_to g xs) (sym (ap (λ (q : PortValue). q.holdings.typed) resumed_shed)) (typed_held g resumed_newest r.from.holdings.typed refl)

    pub shed_here : work_on g w.holdings.works ≡ Some new
    shed_here = work_here g new (shed_all r.from.holdings.works) w.holdings.works refl (ap (λ (q : PortValue). q.holdings.works) resumed_shed)

    pub shed_may : MayWork v → MayWork w
    shed_may m =
        record {
          running = ap (λ (q : PortValue). q.holdings.run) resumed_shed ∙ sym (ap (λ (q : PortValue). q.holdings.run) came_in) ∙ m.running;
          no_walk = ap (λ (q : PortValue). q.holdings.walk) resumed_shed ∙ sym (ap (λ (q : PortValue). q.holdings.walk) came_in) ∙ m.no_walk;
          machine = subst (λ (p : Post). IsMachine p.machine) (sym (ap (λ (q : PortValue). q.post) resumed_shed ∙ sym (ap (λ (q : PortValue). q.post) came_in))) m.machine;
        }

    -- what brought the typed reference does not say that its frame is live
    newest_since : (mark : _) (p : _) (y : ℕ) → Moves v w p Load kinds.Look mark y → (h : TypedReference) (others : List TypedReference) → w.holdings.typed ≡ h ∷ others → IsSince (length w.holdings.steps) h.live
    newest_since mark p y step h others at =
        let two = moves_longer v w p Load kinds.Look mark y step in
        let late : length v.holdings.steps ≤ length w.holdings.steps = omega (arith, two) in
        let both : resumed_newest ∷ r.from.holdings.typed ≡ h ∷ others = sym (ap (λ (q : PortValue). q.holdings.typed) resumed_shed) ∙ at in
        let same : resumed_newest ≡ h = cc in
        let unsure = ap (λ b. surely b v.holdings) (still_unsettled p y mark step) in
        subst (λ (e : TypedReference). IsSince (length w.holdings.steps) e.live) same (subst (IsSince (length w.holdings.steps)) (sym unsure) late)

    -- ---- a table of which entries are recorded
    pub resumed_opens : (mark : _) (p : _) (y : ℕ) → Moves v w p Load kinds.Look mark y → has_recorded want k ≡ true → Reopens b w f i t g k.progress false
    resumed_opens mark p y step opened =
        let table = recorded_table want k opened in
        let some = recorded_some want k opened in
        let is = asks_below t i word g want r.sees.sees.asks in
        let one = moves_longer r.from v _ _ _ _ _ r.step in
        let two = moves_longer v w p Load kinds.Look mark y step in
        let low = form.progress in
        record {
          word = word;
          asks = r.sees.sees.asks ∙ ap (λ x. Typed g x) is;
          inside = r.sees.sees.inside;
          work = new;
          frame = refl;
          kind = ap (λ (x : KindWord). x.kind) new_fields ∙ kind_is ∙ is;
          table = subst (λ x. IsTrue (is_table x)) is table;
          closing_is = work_alone (kind_fields new.word) new_in_work;
          in_work = λ off. new_in_work;
          unmarked = ap (λ (x : KindWord). x.unflushed) new_fields ∙ no_mark k.unflushed refl some;
          recorded_is = refl;
          some = some;
          few = omega (arith, low);
          settled = λ on. absurd cc;
          earlier = omega (arith, one, two);
          since = λ off h others at. newest_since mark p y step h others at;
          after = record (shed_once f i word b.holdings) { typed = resumed_newest ∷ b.holdings.typed; works = new ∷ (shed_once f i word b.holdings).works };
          holding = record { untyped = λ on. absurd cc; typed = λ off. (resumed_newest, refl, ap (λ x. Some x) is, refl) };
          hand = hand_behind r.sees w (λ rs. rs) (λ ys. resumed_newest ∷ ys) (λ ws. new ∷ shed_all ws) resumed_shed;
        }
      where
        no_mark : (u : Bool) → k.unflushed ≡ u → 0 < k.progress → k.unflushed ≡ false
        no_mark false at some = at
        no_mark true at some = let none = form.marked at in absurd (omega (arith, none, some))

    -- ---- nothing of it is recorded: it is left dead, with its mark as it was
    module _ (shut : has_recorded want k ≡ false) (clock : ℕ) (step : Moves v w Clock Load kinds.Look (Some (Shed f i)) clock) where
      none : k.progress ≡ 0
      none = recorded_none want k shut (λ plain. (form.page (ap is_table kind_is ∙ plain)).0)

      small : clock < 2 ^ 36
      small = clock_is_small v.post.machine v.post.vcpu v.holdings clock step.finds

      wanted : IsTrue (not (types.is_none want))
      wanted = asks_some t i word g want r.sees.sees.asks

      clock_found : IsTrue (some_since (sizes_of w.post.machine) new.since Clock (λ y. y == clock) w.holdings.steps)
      unfolding left_by
      clock_found =
          let one = moves_longer r.from v _ _ _ _ _ r.step in
          subst (λ (q : Post). IsTrue (some_since (sizes_of q.machine) new.since Clock (λ y. y == clock) w.holdings.steps)) (sym (ap (λ (q : PortValue). q.post) resumed_shed ∙ sym (ap (λ (q : PortValue). q.post) came_in)))
          (moves_since v w Clock Load kinds.Look (Some (Shed f i)) clock step new.since (λ y. y == clock) (omega (arith, one)) (when_eq clock clock refl))

      pub dead_may : MayLeave w g (dead_kind want k.unflushed clock)
      dead_may =
          may_leave_dead w g want new shed_here wanted k.unflushed clock (ap (λ (x : KindWord). x.kind) new_fields ∙ kind_is) none (inl (sym (ap (λ (x : KindWord). x.unflushed) new_fields))) small clock_found (λ work. shed_held)

      abbrev dead_ref : Reference
      dead_ref = record { frame = g; owner = typed_owner g w.holdings }

      module _ (d : PortValue) (dead : Holds w d (left w g (dead_kind want k.unflushed clock))) where
        dead_hand : Holds r.from d (record r.from.holdings { refs = dead_ref ∷ r.from.holdings.refs; works = shed_all r.from.holdings.works })
        dead_hand =
            dead ∙ ap (λ (h : Holdings). still (record w { holdings = h })) (left_dead w g want new shed_here wanted k.unflushed clock small new_in_work)
            ∙ ap (λ (q : PortValue). still (record q { holdings = record q.holdings { refs = dead_ref ∷ q.holdings.refs; typed = without_typed g q.holdings.typed; works = without_work g q.holdings.works } })) resumed_shed
            ∙ ap (λ xs. still (record r.from { holdings = record r.from.holdings { refs = dead_ref ∷ r.from.holdings.refs; typed = xs; works = without_work g (new ∷ shed_all r.from.holdings.works) } })) (without_newest (λ (e : TypedReference). e.frame) g resumed_newest r.from.holdings.typed refl)
            ∙ ap (λ ws. still (record r.from { holdings = record r.from.holdings { refs = dead_ref ∷ r.from.holdings.refs; works = ws } })) (without_newest (λ (e : Work). e.frame) g new (shed_all r.from.holdings.works) refl)

        pub dead_gives : MayPut g d.holdings
        dead_gives =
            record {
              held = subst (λ rs. 0 < refs_to g rs) (sym (ap (λ (q : PortValue). q.holdings.refs) dead_hand)) (newest_held g dead_ref r.from.holdings.refs refl);
              spares = apart_spares g d.holdings (ap (λ (q : PortValue). work_on g q.holdings.works) dead_hand ∙ none_after (λ (e : Work). e.frame) g f (λ e. record e { recorded = i; unsettled = None }) r.from.holdings.works (λ e. refl) apart);
            }

        pub dead_works : MayWork w → MayWork d
        dead_works m =
            record {
              running = ap (λ (q : PortValue). q.holdings.run) dead_hand ∙ sym (ap (λ (q : PortValue). q.holdings.run) resumed_shed) ∙ m.running;
              no_walk = ap (λ (q : PortValue). q.holdings.walk) dead_hand ∙ sym (ap (λ (q : PortValue). q.holdings.walk) resumed_shed) ∙ m.no_walk;
              machine = subst (λ (p : Post). IsMachine p.machine) (sym (ap (λ (q : PortValue). q.post) dead_hand ∙ sym (ap (λ (q : PortValue). q.post) resumed_shed))) m.machine;
            }

        pub dead_given : (z : PortValue) → Holds d z (gave g d.holdings) → Holds b z (shed_once f i word b.holdings)
        dead_given z given =
            hand_behind r.sees z (λ rs. rs) (λ ys. ys) shed_all
            (given ∙ ap (λ (q : PortValue). still (record q { holdings = gave g q.holdings })) dead_hand
            ∙ ap (λ rs. still (record r.from { holdings = record r.from.holdings { refs = rs; works = shed_all r.from.holdings.works } })) (without_newest (λ (e : Reference). e.frame) g dead_ref r.from.holdings.refs refl))
