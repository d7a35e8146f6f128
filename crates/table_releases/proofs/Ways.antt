-- An entry that asks no type: it is shed, and its reference given back.
use Rattle.std.proofs.Common.{◌≡◌, ◌⊎◌, ℕ, ◌<◌, ◌≤◌, Fits, w32, IfOk, MatchResult, List, [], ◌∷◌, Option, Some, None, IsTrue, Result, Ok, Err, refl, sym, ap, ◌∙◌, subst, arith, inl, inr, ◌≢◌, Bool, true, false, ◌+◌}
use Rattle.xp_words.specs.Entries.{demand_at, below}
use Rattle.xp_words.specs.KindWords.{kind_fields, kind_read, kind_write, is_kind}
use Rattle.xp_words.specs.Machine.{IsMachine, Machine}
use Rattle.xp_words.specs.declared.entry.Demand.TheVariants.{Bad, Nothing, Read, Typed}
use Rattle.xp_words.specs.declared.kind.PageType.{PageType}
use Rattle.xp_words.specs.declared.place.Place.TheVariants.{Clock, Kind, Refs, Cell}
use Rattle.xp_words.specs.declared.reply.Stop.{Stop}
use Rattle.xp_board.specs.declared.holdings.Holdings.{Holdings}
use Rattle.xp_board.specs.declared.holdings.Reference.{Reference}
use Rattle.xp_board.specs.declared.holdings.Work.{Work}
use Rattle.xp_board.specs.declared.step.Act.TheVariants.{Load, Cas, Store, Add}
use Rattle.xp_board.specs.declared.step.Mark.TheVariants.{Shed}
use Rattle.xp_board.specs.Hands.{brought, changed_work, refs_to, work_on}
use Rattle.xp_board.specs.Readings.{is_closing, is_partial, is_work, is_live_word}
use Rattle.xp_board.specs.RefSteps.{is_closing_on, one_down}
use Rattle.xp_board.specs.Told.{PortValue, Post, is_telling, told_word}
use Rattle.xp_board.proofs.ListCounts.{newest_held, times_by-cons_here}
use Rattle.xp_board.proofs.WorkFacts.{works_facts}
use Rattle.step_maker.specs.Holds.{Holds, still}
use Rattle.step_maker.specs.Moves.{Came, Met, Moves}
use Rattle.step_maker.proofs.Coming.{came_self, moves_came, came_trans}
use Rattle.step_maker.specs.Answers.{Serves}
use Rattle.step_maker.specs.Asked.{of_back, Asked, of}
use Rattle.step_maker.specs.Pauses.{Progress}
use Rattle.step_maker.proofs.Piecing.{serves_came, serves_step}
use Rattle.step_maker.specs.Visits.{Then, Only, Visit, Does, visit}
use Rattle.step_maker.proofs.Visiting.{does_as, does_then, does_one}
use Rattle.frame_words.specs.Freeing.{PutBy, Puts, gave}
use Rattle.frame_words.specs.Refs.{MayPut}
use Rattle.frame_words.proofs.Putting.{without_newest}
use Rattle.table_entries.specs.Tops.{with_recorded}
use Rattle.table_entries.proofs.HandLists.{was_in}
use Rattle.table_entries.proofs.PiecesTaking.{Goes, asks_still, goes_back}
use Rattle.table_words.specs.Entries.{ShedsAt, entry_shed, sheds_at}
use Rattle.table_releases.specs.Between.{SeesLast, Resumed, SeesKind, Releases, ReleasesEntry, SeesTyped}
use Rattle.table_releases.specs.Found.{ReleasesBy, ReleasesFound, PartialBy, ComesBy, DiesShed, has_recorded}
use Rattle.table_releases.specs.Tops.{LeavesReleased, OwnsReleased, StaysRecorded, shed_once, ShowsReleased, IsSettledTop, IsShedLive, ReleasesTop}
use Rattle.table_releases.specs.declared.entries.Released.{Released}
use Rattle.table_releases.specs.declared.entries.Released.TheVariants.{Given, Opened}
use Rattle.table_releases.proofs.FrameSeen.{last_found, sheds, form_partial_is, kind_found, kind_post, swaps, busy_found, closed_found, counted_found, found_live, plain_found}
use Rattle.table_releases.proofs.Looking.{looked_seen, shed_bad, shed_nothing, shed_plain, typed_there}
use Rattle.table_releases.proofs.PiecesTyped.{gone, asks_plain, goes_shed, look_goes, shed_shows, IsOf, goes_shed_refs, goes_step, kind_asks, kind_goes, resumed_goes, typed_shows, back_releases, busy_releases, lost_releases, two_back_releases}
use Rattle.xp_words.specs.Places.{number, sizes_of}
use Rattle.xp_words.specs.declared.kind.KindWord.{KindWord}
use Rattle.xp_words.specs.declared.reply.Pause.TheVariants.{Lost, Busy}
use Rattle.xp_words.specs.declared.reply.Stop.TheVariants.{Paused}
use Rattle.xp_board.specs.KindSteps.{Partial, resumed_kind}
use Rattle.frame_types.specs.Found.{swaps_kind, StoresKind, DropsPlain}
use Rattle.kind_words.proofs.KindFacts.{read_is, work_word}
use Rattle.kind_words.specs.Kinds.{looked_at, resumed_work, dead_kind, left}
use Rattle.table_releases.proofs.HandLive.{stays_recorded, closed_opens, counted_given, dead_given, dead_may, new, new_in_work, new_kind, plain_given, resumed_opens, shed_here}
use Rattle.xp_board.proofs.KindForms.{fields_of}
use Rattle.step_maker.proofs.Keeping.{kept_type}
use Rattle.kind_words.proofs.KindWriting.{fields_write}
use Rattle.table_entries.specs.Asking.{of_entries}
use Rattle.table_entries.proofs.Shared.{no_looks as looks_none}
use Rattle.table_releases.proofs.Recording.{recorded_some, recorded_table}
use Rattle.frame_types.proofs.Serving.{work_alive}
use Rattle.xp_words.specs.PageTypes.{is_table}
use Rattle.xp_board.specs.After.{learned_cell}
use Rattle.xp_board.proofs.KindReadings.{partial_parts}
use Rattle.step_maker.specs.Plain.{Leaves, change}
use Rattle.frame_words.specs.Plain.{put}
use Rattle.frame_types.specs.Lowering.{DropsType}
use Rattle.frame_types.specs.Plain.{dropped_plain}
use Rattle.frame_types.specs.Taking.{IsOfOther, gave_type}
use Rattle.table_releases.specs.Plain.{TwinRelease}
use Rattle.table_releases.proofs.Owning.{live_owned, resumed_owned}
use Rattle.table_releases.proofs.Twins.{busy_twin, closed_twin, counted_twin, dead_twin, dropped_twin, never_lost, nothing_twin, plain_twin, table_twin}
use Rattle.xp_board.specs.declared.step.StepKind.TheVariants as kinds

-- ---- numbers of frames are small
pub frame_fits : (n : Machine) (g : ℕ) → IsMachine n → g < n.frames → Fits w32 g
frame_fits n g m inside = let few = m.few_frames in omega (arith, few, inside)

module _ {b v w : PortValue} {f i : ℕ} {t : PageType} {word y : ℕ} (l : SeesLast b v f i t word) (step : Moves v w Clock Load kinds.Look (Some (Shed f i)) y) (shed : Holds v w (entry_shed v.post.machine f i v.holdings)) where
  pub shed_goes : (owner pages : ℕ) → Goes b w f i owner pages []
  shed_goes owner pages = goes_shed w (look_goes l owner pages) f i y step

  entry_shows : (owner pages : ℕ) (z : PortValue) → Came w z → Progress (Met b z)
  entry_shows owner pages z came = shed_shows w (look_goes l owner pages) Clock f i y step z came

  pub nothing_shows : (owner pages : ℕ) → Progress (Met b w)
  nothing_shows owner pages = entry_shows owner pages w (came_self w)

  pub plain_shows : (g owner pages : ℕ) (z : PortValue) → Serves w z (of_back g) [] → Progress (Met b z)
  plain_shows g owner pages z back = entry_shows owner pages z (serves_came w z (of_back g) [] back)

  abbrev fewer : List Work → List Work
  fewer ws = changed_work f (λ (e : Work). record e { recorded = i; unsettled = None }) ws

  none_left : Holds v w (with_recorded f i None v.holdings) → Holds b w (shed_once f i word b.holdings)
  none_left left = left ∙ ap (λ (q : PortValue). still (record q { holdings = record q.holdings { works = fewer q.holdings.works } })) l.hand

  pub nothing_hand : (demand_at t i word ≡ Nothing) ⊎ (demand_at t i word ≡ Bad) → Holds b w (shed_once f i word b.holdings)
  nothing_hand (inl asks) = none_left (shed_nothing v w (looked_seen l) shed asks)
  nothing_hand (inr asks) = none_left (shed_bad v w (looked_seen l) shed asks)

  pub nothing_found : (demand_at t i word ≡ Nothing) ⊎ (demand_at t i word ≡ Bad) → ReleasesFound b w f i t (Ok Given)
  nothing_found (inl asks) = last_found l w (Ok Given) Nothing asks (does_as v w (ShedsAt Clock f i) (λ rs. ReleasesBy b.post.machine f i (Ok Given) Nothing rs) (λ vs one. (refl, one)) (sheds v w Clock f i y step))
  nothing_found (inr asks) = last_found l w (Ok Given) Bad asks (does_as v w (ShedsAt Clock f i) (λ rs. ReleasesBy b.post.machine f i (Ok Given) Bad rs) (λ vs one. (refl, one)) (sheds v w Clock f i y step))

  -- ---- it asks a reference
  module _ (g : ℕ) (asks : demand_at t i word ≡ Read g) where
    plain_left : Holds v w (record (with_recorded f i None v.holdings) { refs = brought g v.holdings ∷ v.holdings.refs })
    plain_left = shed_plain v w (looked_seen l) shed g asks

    pub plain_post : w.post ≡ b.post
    plain_post = ap (λ (q : PortValue). q.post) plain_left ∙ ap (λ (q : PortValue). q.post) l.hand

    refs_are : w.holdings.refs ≡ brought g v.holdings ∷ v.holdings.refs
    refs_are = ap (λ (q : PortValue). q.holdings.refs) plain_left

    -- a frame that is closing in the own works kept one before
    closing_held : (e : Work) → work_on g v.holdings.works ≡ Some e → IsTrue (is_closing (kind_fields e.word)) → 0 < refs_to g v.holdings.refs
    closing_held e here closing =
        let finds = step.finds in
        let mine : work_on g (finds.hands v.post.vcpu).works ≡ Some e = ap (λ (u : Holdings). work_on g u.works) finds.mine ∙ here in
        let facts = works_facts v.post.machine finds.words finds.hands v.post.vcpu g e finds.sound finds.real mine in
        subst (λ (u : Holdings). 0 < refs_to g u.refs) finds.mine (subst (λ n. 0 < refs_to n (finds.hands v.post.vcpu).refs) facts.frame (facts.agrees.closing closing))

    same_word : (e x : Work) → (e ≡ x) ⊎ (e ≡ record x { recorded = i; unsettled = None }) → e.word ≡ x.word
    same_word e x (inl is) = ap (λ (q : Work). q.word) is
    same_word e x (inr is) = ap (λ (q : Work). q.word) is

    spares_by : (o : Option Work) → work_on g w.holdings.works ≡ o → IsTrue (is_closing_on o) → 2 ≤ refs_to g w.holdings.refs
    spares_by None here closing = absurd cc
    spares_by (Some e) here closing =
        let was = was_in (λ (q : Work). q.frame) g f (λ (q : Work). record q { recorded = i; unsettled = None }) v.holdings.works e (λ q. refl) (sym (ap (λ (q : PortValue). work_on g q.holdings.works) plain_left) ∙ here) in
        let one = closing_held was.was was.here (subst (λ n. IsTrue (is_closing (kind_fields n))) (same_word e was.was was.is) closing) in
        let more = times_by-cons_here (λ (q : Reference). q.frame) g (brought g v.holdings) v.holdings.refs refl in
        subst (λ rs. 2 ≤ refs_to g rs) (sym refs_are) (omega (arith, one, more))

    pub plain_gives : MayPut g w.holdings
    plain_gives =
        record {
          held = subst (λ rs. 0 < refs_to g rs) (sym refs_are) (newest_held g (brought g v.holdings) v.holdings.refs refl);
          spares = λ closing. spares_by (work_on g w.holdings.works) refl closing;
        }

    pub plain_hand : (z : PortValue) → Holds w z (gave g w.holdings) → Holds b z (shed_once f i word b.holdings)
    plain_hand z given =
        given ∙ ap (λ (q : PortValue). still (record q { holdings = gave g q.holdings })) plain_left
        ∙ ap (λ rs. still (record v { holdings = record (with_recorded f i None v.holdings) { refs = rs } })) (without_newest (λ (e : Reference). e.frame) g (brought g v.holdings) v.holdings.refs refl)
        ∙ ap (λ (q : PortValue). still (record q { holdings = record q.holdings { works = fewer q.holdings.works } })) l.hand

    pub plain_goes : (owner pages : ℕ) (z : PortValue) → Serves w z (of_back g) [] → Goes b z f i owner pages []
    plain_goes owner pages z back =
        goes_back (shed_goes owner pages) z g None
        (asks_still (look_goes l owner pages) w g None (asks_plain l owner pages g asks) (moves_came v w Clock Load kinds.Look (Some (Shed f i)) y step)) back

    ref_found : (z : PortValue) → Puts w z g → ReleasesFound b z f i t (Ok Given)
    ref_found z puts =
        last_found l z (Ok Given) (Read g) asks
        (does_as v z (Then (ShedsAt Clock f i) (PutBy g)) (λ rs. ReleasesBy b.post.machine f i (Ok Given) (Read g) rs) (λ vs steps. (refl, steps)) (does_then v w z (ShedsAt Clock f i) (PutBy g) (sheds v w Clock f i y step) puts))

-- ---- The exchange that is to bring a partial frame into the own works: it came, or the exchange found another word.
pub resumed_from : {v : PortValue} {x : ℕ} {b w : PortValue} {f i word g : ℕ} {t want : PageType} {k : KindWord} → SeesKind b v f i t word g want x → kind_read x ≡ Some k → IsTrue (is_partial k) →
    Moves v w (Kind g) (Cas (kind_write k) (kind_write (resumed_kind k))) kinds.Kind None (kind_write k) → Holds v w (resumed_work g k v.holdings) → Resumed b w f i t word g want k
resumed_from {v} {x} l read partial step hand = record { from = v; found = x; sees = l; read = read; partial = partial; step = step; hand = hand }

module _ {b v : PortValue} {f i : ℕ} {t : PageType} {word g : ℕ} {want : PageType} {x : ℕ} (l : SeesKind b v f i t word g want x) (w : PortValue) (found : ℕ) where
  no_looking : v.holdings.looking ≡ []
  no_looking = ap (λ (q : PortValue). q.holdings.looking) l.same ∙ ap (λ (q : PortValue). q.holdings.looking) l.sees.sees.hand ∙ l.sees.sees.looked

  -- the hand is as it was
  pub lost_stays : Holds v w (looked_at g found v.holdings) → StaysRecorded b w f i
  lost_stays hand =
      let before = stays_recorded l in
      (before.0, hand ∙ ap (λ ys. still (record v { holdings = record v.holdings { looking = ys } })) (looks_none g found v.holdings.looking no_looking) ∙ before.1)

  pub lost_place : Holds v w (looked_at g found v.holdings) → number (sizes_of w.post.machine) (Kind g) ≡ number (sizes_of b.post.machine) (Kind g)
  lost_place hand = ap (λ (p : Post). number (sizes_of p.machine) (Kind g)) (ap (λ (q : PortValue). q.post) hand ∙ kind_post l)

  module _ (k : KindWord) (read : kind_read x ≡ Some k) (partial : IsTrue (is_partial k)) (change : Moves v w (Kind g) (Cas (kind_write k) (kind_write (resumed_kind k))) kinds.Kind None found) where
    pub lost_found : (place : ℕ) → place ≡ number (sizes_of b.post.machine) (Kind g) → found ≢ kind_write k → ReleasesFound b w f i t (Err (Paused (Lost place x found)))
    lost_found place at off =
        kind_found l w (Err (Paused (Lost place x found))) Partial (form_partial_is x k read partial)
        (does_as v w (Only (swaps_kind g x (resumed_kind (kind_fields x)) found)) (λ vs. PartialBy b.post.machine f i g want x (Err (Paused (Lost place x found))) vs)
        (λ vs one. (at, refl, (λ same. off (same ∙ (read_is x k read).1)), one)) (swaps v w g x k found read change))

-- ---- Behind the exchange that brought a partial frame into the own works: the steps.
module _ {b v : PortValue} {f i : ℕ} {t : PageType} {word g : ℕ} {want : PageType} {k : KindWord} (r : Resumed b v f i t word g want k) where
  module _ (owner pages : ℕ) where
    in_goes : Goes b v f i owner pages []
    in_goes = resumed_goes r.sees owner pages k r.read r.partial v (kind_write k) r.step refl

    in_asks : (w : PortValue) → Came v w → Asked b.post.machine b.post.vcpu (of_entries owner pages) (Met b w) g owner (Some want)
    in_asks w came =
        asks_still (kind_goes r.sees owner pages) w g (Some want) (kind_asks r.sees owner pages)
        (came_trans r.from v w (moves_came r.from v (Kind g) _ kinds.Kind None (kind_write k) r.step) came)

    in_shows : (z : PortValue) (a : Released) → IsOf g a → Progress (Met b z) → Came v z → ShowsReleased b z owner pages t a
    in_shows z a is progress came =
        typed_shows r.sees owner pages z a is progress (came_trans r.from v z (moves_came r.from v (Kind g) _ kinds.Kind None (kind_write k) r.step) came)

    -- a table of which entries are recorded
    pub table_releases : (w : PortValue) (y : ℕ) → Moves v w (Refs g) Load kinds.Look (Some (Shed f i)) y → Releases b w f i t owner pages (Ok (Opened g k.progress false))
    table_releases w y step =
        let goes = goes_shed_refs w in_goes f i y g step in
        gone goes (in_shows w (Opened g k.progress false) refl (shed_shows w in_goes (Refs g) f i y step w (came_self w)) (moves_came v w (Refs g) Load kinds.Look (Some (Shed f i)) y step))

    -- a frame of which none are
    pub dead_releases : (w d z : PortValue) (clock x : ℕ) (l : KindWord) (e : Work) → Moves v w Clock Load kinds.Look (Some (Shed f i)) clock → Moves w d (Kind g) (Store (kind_write l)) kinds.Kind None x → work_on g w.holdings.works ≡ Some e →
        IsTrue (is_work (kind_fields e.word)) → (kind_fields e.word).kind ≡ want → IsTrue (is_kind l) → l.kind ≡ want → Serves d z (of_back g) [] → Releases b z f i t owner pages (Ok Given)
    dead_releases w d z clock x l e shed store here work kind is type back =
        let one = goes_shed w in_goes f i clock shed in
        let came = moves_came v w Clock Load kinds.Look (Some (Shed f i)) clock shed in
        let left = moves_came w d (Kind g) (Store (kind_write l)) kinds.Kind None x store in
        let same : x ≡ e.word = work_word w.post.machine w.post.vcpu w.holdings g x e store.finds here in
        let two =
        goes_step b w d f i owner pages [] (Kind g) (Store (kind_write l)) kinds.Kind None x [] one store (λ h j at. let y = at in cc)
        (serves_step b w d (of_entries owner pages) [] (Kind g) (Store (kind_write l)) kinds.Kind None x one.serves store
        (of owner (Some want) (in_asks d (came_trans v w d came left)), kept_type x (kind_write l) (kind_fields e.word) l (ap (λ y. kind_fields y) same) (fields_write l is) (type ∙ sym kind) (work_alive (kind_fields e.word) work)))
        in
        let goes = goes_back two z g (Some want) (in_asks d (came_trans v w d came left)) back in
        let last = came_trans w d z left (serves_came d z (of_back g) [] back) in
        gone goes (in_shows z Given tt (shed_shows w in_goes Clock f i clock shed z last) (came_trans v w z came last))

  -- ---- the steps
  found_recorded : has_recorded want (kind_fields r.found) ≡ has_recorded want k
  found_recorded = ap (λ x. has_recorded want x) (fields_of r.found k r.read)

  partial_found : (z : PortValue) (a : Released) (opened : Bool) → has_recorded want k ≡ opened → Does v z (λ cs. ComesBy f i g want r.found (Ok a) opened cs) → ReleasesFound b z f i t (Ok a)
  partial_found z a opened is way =
      let came : ℕ → Visit = swaps_kind g r.found (resumed_kind (kind_fields r.found)) in
      kind_found r.sees z (Ok a) Partial (form_partial_is r.found k r.read r.partial)
      (does_then r.from v z (Only (came r.found)) (λ cs. ComesBy f i g want r.found (Ok a) (has_recorded want (kind_fields r.found)) cs)
      (subst (λ y. Does r.from v (Only (came y))) (sym (read_is r.found k r.read).1) (swaps r.from v g r.found k (kind_write k) r.read r.step))
      (subst (λ c. Does v z (λ cs. ComesBy f i g want r.found (Ok a) c cs)) (sym (found_recorded ∙ is)) way))

  pub table_found : (w : PortValue) (y : ℕ) → Moves v w (Refs g) Load kinds.Look (Some (Shed f i)) y → has_recorded want k ≡ true → ReleasesFound b w f i t (Ok (Opened g k.progress false))
  table_found w y step opened =
      partial_found w (Opened g k.progress false) true opened
      (does_as v w (ShedsAt (Refs g) f i) (λ cs. ComesBy f i g want r.found (Ok (Opened g k.progress false)) true cs)
      (λ vs one. (ap (λ (x : KindWord). Ok (Opened g x.progress false)) (sym (fields_of r.found k r.read)), subst (λ (x : KindWord). 0 < x.progress) (sym (fields_of r.found k r.read)) (recorded_some want k opened), one)) (sheds v w (Refs g) f i y step))

  pub dead_found : (w d z : PortValue) (clock x : ℕ) → Moves v w Clock Load kinds.Look (Some (Shed f i)) clock → Moves w d (Kind g) (Store (kind_write (dead_kind want k.unflushed clock))) kinds.Kind None x → Puts d z g → has_recorded want k ≡ false →
      ReleasesFound b z f i t (Ok Given)
  dead_found w d z clock x shed store puts shut =
      let dead : List Visit → Type 0 = StoresKind g (dead_kind want k.unflushed clock) in
      let mark : k.unflushed ≡ (kind_fields r.found).unflushed = ap (λ (y : KindWord). y.unflushed) (sym (fields_of r.found k r.read)) in
      partial_found z Given false shut
      (does_as v z (Then (Only (sheds_at Clock f i clock)) (Then dead (PutBy g))) (λ cs. ComesBy f i g want r.found (Ok Given) false cs) (λ vs steps. (refl, subst (λ u. DiesShed f i g want u vs) mark (clock, steps)))
      (does_then v w z (Only (sheds_at Clock f i clock)) (Then dead (PutBy g)) (does_one v w Clock Load kinds.Look (Some (Shed f i)) clock shed)
      (does_then w d z dead (PutBy g)
      (does_as w d (Only (visit (Kind g) (Store (kind_write (dead_kind want k.unflushed clock))) x)) dead (λ vs one. (x, one)) (does_one w d (Kind g) (Store (kind_write (dead_kind want k.unflushed clock))) kinds.Kind None x store)) puts)))

-- ---- All that the call on the last recorded entry ensures, by what became of it.
releases_entry : {v w : PortValue} {f i : ℕ} {t : PageType} {answer : Result Released Stop} → ((owner pages : ℕ) → Releases v w f i t owner pages answer) → ReleasesFound v w f i t answer → MatchResult answer (λ a. LeavesReleased v w f t i a) (λ _. StaysRecorded v w f i) →
    IfOk answer (λ a. OwnsReleased v w f a) → TwinRelease v w f t i answer → (IsSettledTop v.holdings → IsShedLive answer) → ReleasesEntry v w f i t answer
releases_entry goes found hand owned plain settled =
    record {
      serves = λ owner pages. (goes owner pages).serves;
      stops = λ owner pages. (goes owner pages).stops;
      kinds = (goes 0 0).kinds;
      settled = settled;
      shows = λ owner pages. (goes owner pages).shows;
      looks = (goes 0 0).looks;
      hand = hand;
      owned = owned;
      found = found;
      plain = plain;
    }

-- ---- the look at the entry
pub sees_last : {b v : PortValue} {f i word : ℕ} {t : PageType} → Moves b v (Cell f i) Load kinds.Look None word → Holds b v (learned_cell f i word b.holdings) → f < b.post.machine.frames → i < 512 → ReleasesTop f t (i + 1) b.holdings →
    ((g : ℕ) → IsOfOther g (below t) b.holdings) → b.holdings.looking ≡ [] → SeesLast b v f i t word
sees_last look hand frame index works above looked = record { look = look; hand = hand; frame = frame; index = index; works = works; above = above; looked = looked }

pub sees_typed : {b v : PortValue} {f i word g : ℕ} {t want : PageType} → SeesLast b v f i t word → demand_at t i word ≡ Typed g want → SeesTyped b v f i t word g want
sees_typed {g = g} {want = want} l asks = record { sees = l; asks = asks; inside = typed_there l g want asks }

-- it asks no type
module _ {b v w : PortValue} {f i word y : ℕ} {t : PageType} (l : SeesLast b v f i t word) (step : Moves v w Clock Load kinds.Look (Some (Shed f i)) y) (shed : Holds v w (entry_shed v.post.machine f i v.holdings)) where
  pub releases_nothing : (demand_at t i word ≡ Nothing) ⊎ (demand_at t i word ≡ Bad) → ReleasesEntry b w f i t (Ok Given)
  releases_nothing asks =
      releases_entry
      (λ owner pages. gone (shed_goes l step shed owner pages) (nothing_shows l step shed owner pages))
      (nothing_found l step shed asks) (word, nothing_hand l step shed asks) tt (nothing_twin l w _ _ y step asks) (λ settled. tt)

  pub releases_ref : {z : PortValue} {g : ℕ} → demand_at t i word ≡ Read g → Serves w z (of_back g) [] → Puts w z g → Holds w z (gave g w.holdings) → (is_telling w ≡ true → Leaves z (put g (told_word w))) → ReleasesEntry b z f i t (Ok Given)
  releases_ref {z} {g} asks back puts gives leaves =
      releases_entry (λ owner pages. gone (plain_goes l step shed g asks owner pages z back) (plain_shows l step shed g owner pages z back))
      (ref_found l step shed g asks z puts) (word, plain_hand l step shed g asks z gives) tt (plain_twin l w z _ _ y g step asks leaves) (λ settled. tt)

-- ---- its frame was looked at
module _ {b v : PortValue} {f i word g x : ℕ} {t want : PageType} (l : SeesKind b v f i t word g want x) where
  -- another vCPU has it in its hand
  pub releases_busy : {k : KindWord} → kind_read x ≡ Some k → k.validated ≡ false → k.partial ≡ false → ReleasesEntry b v f i t (Err (Paused (Busy g x)))
  releases_busy {k} read off none =
      let dead = ap (λ (y : KindWord). y.validated) (fields_of x k read) ∙ off in
      let whole = ap (λ (y : KindWord). y.partial) (fields_of x k read) ∙ none in
      releases_entry (λ owner pages. busy_releases l owner pages k read off none) (busy_found l dead whole) (stays_recorded l) tt (busy_twin l dead whole) (λ settled. absurd (let live = found_live l k read settled in cc))

  -- an exchange that was to bring it into the own works found another word
  pub releases_lost : {w : PortValue} {k : KindWord} {found : ℕ} → kind_read x ≡ Some k → IsTrue (is_partial k) → Moves v w (Kind g) (Cas (kind_write k) (kind_write (resumed_kind k))) kinds.Kind None found → found ≢ kind_write k →
      Holds v w (looked_at g found v.holdings) → ReleasesEntry b w f i t (Err (Paused (Lost (number (sizes_of w.post.machine) (Kind g)) x found)))
  releases_lost {w} {k} {found} read partial change off looks =
      let place = lost_place l w found looks in
      releases_entry (λ owner pages. lost_releases l owner pages k read partial w found change _ place off) (lost_found l w found k read partial change _ place off) (lost_stays l w found looks) tt (never_lost l read change off _)
      (λ settled. absurd (let live = found_live l k read settled in let parts = partial_parts k partial in let off = parts.0 in cc))

  -- it is live, and its entry shed by a look at its reference word
  module _ (live : is_live_word x ≡ true) {w : PortValue} {y : ℕ} (look : Moves v w (Refs g) Load kinds.Look (Some (Shed f i)) y) (shed : Holds v w (entry_shed v.post.machine f i v.holdings)) where
    pub releases_plain : {z : PortValue} → is_table want ≡ false → Serves w z (of_back g) [] → Holds w z (gave_type g w.holdings) → DropsPlain w z g want → (is_telling w ≡ true → Leaves z (dropped_plain g want (told_word w))) → ReleasesEntry b z f i t (Ok Given)
    releases_plain {z} plain back gives drops leaves =
        releases_entry (λ owner pages. back_releases l owner pages w i y look z Given tt back) (plain_found l live w y look z plain drops) (word, plain_given l live w shed z gives) tt (dropped_twin l live w _ y look z plain leaves) (λ settled. tt)

    module _ {z : PortValue} {last : Bool} (drops : DropsType w z g last) (table : is_table want ≡ true) (back : Serves w z (of_back g) []) (leaves : is_telling w ≡ true → Leaves z (change (Add one_down) (Kind g) (told_word w))) where
      pub releases_closed : last ≡ true → ReleasesEntry b z f i t (Ok (Opened g 512 true))
      releases_closed is =
          let closes = subst (λ r. DropsType w z g r) is drops in
          releases_entry (λ owner pages. back_releases l owner pages w i y look z (Opened g 512 true) refl back) (closed_found l live w y look z last drops table is)
          (closed_opens l live w shed z closes table) (live_owned l live w y look shed z closes table) (closed_twin l live w _ y look z last drops table leaves is) (λ settled. refl)

      pub releases_counted : {q : PortValue} → last ≡ false → Serves z q (of_back g) [] → Puts z q g → Holds z q (gave g z.holdings) → (is_telling z ≡ true → Leaves q (put g (told_word z))) → ReleasesEntry b q f i t (Ok Given)
      releases_counted {q} is two puts gives given =
          releases_entry (λ owner pages. two_back_releases l owner pages w i y look z q Given tt back two) (counted_found l live w y look z last drops table is q puts)
          (word, counted_given l live w shed z (subst (λ r. DropsType w z g r) is drops) q gives) tt (counted_twin l live w _ y look z last drops table leaves is q given) (λ settled. tt)

-- ---- it was partial, and came into the own works
module _ {b v : PortValue} {f i word g : ℕ} {t want : PageType} {k : KindWord} (r : Resumed b v f i t word g want k) where
  unsettled : (answer : Result Released Stop) → IsSettledTop b.holdings → IsShedLive answer
  unsettled answer settled = absurd (let live = found_live r.sees k r.read settled in let parts = partial_parts k r.partial in let off = parts.0 in cc)

  pub releases_table : {w : PortValue} {y : ℕ} → Moves v w (Refs g) Load kinds.Look (Some (Shed f i)) y → Holds v w (entry_shed v.post.machine f i v.holdings) → has_recorded want k ≡ true → ReleasesEntry b w f i t (Ok (Opened g k.progress false))
  releases_table {w} {y} look shed opened =
      releases_entry (λ owner pages. table_releases r owner pages w y look) (table_found r w y look opened)
      (resumed_opens r w shed _ _ y look opened) (resumed_owned r w y look shed (recorded_table want k opened)) (table_twin r w _ y look opened) (unsettled (Ok (Opened g k.progress false)))

  pub releases_dead : {w d z : PortValue} {clock x : ℕ} {dead : KindWord} → Moves v w Clock Load kinds.Look (Some (Shed f i)) clock → Holds v w (entry_shed v.post.machine f i v.holdings) → has_recorded want k ≡ false →
      dead ≡ dead_kind want k.unflushed clock → Moves w d (Kind g) (Store (kind_write dead)) kinds.Kind None x → Holds w d (left w g dead) → Serves d z (of_back g) [] → Puts d z g → Holds d z (gave g d.holdings) →
      (is_telling d ≡ true → Leaves z (put g (told_word d))) → ReleasesEntry b z f i t (Ok Given)
  releases_dead {w} {d} {z} {clock} {x} step shed shut is stores leaves back puts gives words =
      let store = subst (λ y. Moves w d (Kind g) (Store (kind_write y)) kinds.Kind None x) is stores in
      releases_entry
      (λ owner pages.
      dead_releases r owner pages w d z clock x (dead_kind want k.unflushed clock) (new r) step store (shed_here r w shed) (new_in_work r) (new_kind r) (dead_may r w shed shut clock step).is refl back)
      (dead_found r w d z clock x step store puts shut) (word, dead_given r w shed shut clock step d (subst (λ y. Holds w d (left w g y)) is leaves) z gives) tt
      (dead_twin r w d z _ clock x step store words shut) (unsettled (Ok Given))
