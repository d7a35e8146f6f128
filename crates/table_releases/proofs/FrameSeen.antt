-- A frame that the last recorded entry names, and the kind word that was found of it.
use Rattle.std.proofs.Common.{◌≡◌, ◌⊎◌, ℕ, ◌<◌, ◌||◌, true, false, Option, Some, None, IsTrue, refl, sym, ap, ◌∙◌, subst, arith, inl, inr, ◌==◌, if◌then◌else◌, Bool, List, Result, Ok, Err}
use Rattle.xp_words.specs.Entries.{demand_at}
use Rattle.xp_words.specs.KindWords.{kind_fields, kind_read, kind_write}
use Rattle.xp_words.specs.declared.entry.Demand.{Demand}
use Rattle.xp_words.specs.declared.entry.Demand.TheVariants.{Typed}
use Rattle.xp_words.specs.declared.kind.KindWord.{KindWord}
use Rattle.xp_words.specs.declared.kind.PageType.{PageType}
use Rattle.xp_words.specs.declared.place.Place.TheVariants.{Kind, Refs, Cell}
use Rattle.xp_board.specs.declared.holdings.Ending.{Ending}
use Rattle.xp_board.specs.declared.holdings.Holdings.{Holdings}
use Rattle.xp_board.specs.declared.holdings.Lock.{Lock}
use Rattle.xp_board.specs.declared.holdings.Work.{Work}
use Rattle.xp_board.specs.After.{learned_work}
use Rattle.xp_board.specs.Hands.{ending_of, endings_of, lock_on, locks_on, work_on}
use Rattle.xp_board.specs.KindSteps.{Partial, form_of, Dead, Form, InWork, Live, resumed_kind}
use Rattle.xp_board.specs.Readings.{is_live, is_locked, is_partial, is_type, is_work, kind_at, ref_count, is_live_word}
use Rattle.xp_board.specs.Recorded.{entry_demand}
use Rattle.xp_board.specs.Told.{Finds, Post, PortValue}
use Rattle.xp_board.proofs.KindForms.{fields_of}
use Rattle.xp_board.proofs.KindReadings.{partial_parts}
use Rattle.xp_board.proofs.Learned.{learned_frame}
use Rattle.xp_board.proofs.ListCounts.{first_by-none}
use Rattle.xp_board.proofs.Sums.{when_eq}
use Rattle.xp_board.proofs.Works.{counted_alive, nobody_locks}
use Rattle.step_maker.specs.Pauses.{IsElsewhere}
use Rattle.kind_words.proofs.KindFacts.{work_word, read_is}
use Rattle.frame_types.specs.Taking.{IsOfOther}
use Rattle.table_entries.proofs.HandLists.{asks_below, was_in}
use Rattle.table_entries.proofs.HandReady.{learned_word}
use Rattle.table_entries.proofs.LastEntry.{SeenLast, finds_kind, finds_leads, finds_referred, finds_unkept, seen_asks}
use Rattle.table_releases.specs.Between.{SeesKind, SeesTyped, SeesLast}
use Rattle.table_releases.proofs.Looking.{looked_seen, looked_settled}
use Rattle.table_releases.specs.Tops.{IsSettledTop}
use Rattle.xp_board.specs.declared.holdings.Unsettled.{Unsettled}
use Rattle.xp_words.specs.PageTypes.{is_table}
use Rattle.xp_words.specs.declared.place.Place.{Place}
use Rattle.xp_words.specs.declared.reply.Pause.TheVariants.{Busy}
use Rattle.xp_words.specs.declared.reply.Stop.{Stop}
use Rattle.xp_words.specs.declared.reply.Stop.TheVariants.{Paused}
use Rattle.xp_board.specs.declared.step.Act.TheVariants.{Add, Cas, Load}
use Rattle.xp_board.specs.declared.step.Mark.TheVariants.{Shed}
use Rattle.xp_board.specs.RefSteps.{one_down}
use Rattle.step_maker.specs.Moves.{Came, Moves}
use Rattle.step_maker.proofs.Coming.{came_trans, moves_came}
use Rattle.step_maker.specs.Visits.{Visit, Does, Nothing, Only, Then, visit}
use Rattle.step_maker.proofs.Visiting.{does_as, does_nothing, does_one, does_then}
use Rattle.frame_words.specs.Freeing.{PutBy, Puts}
use Rattle.frame_types.specs.Found.{DropsBy, DropsPlain, saw_kind, swaps_kind}
use Rattle.frame_types.specs.Lowering.{DropsType}
use Rattle.table_words.specs.Entries.{ShedsAt, sheds_at}
use Rattle.table_entries.specs.Found.{saw_cell}
use Rattle.table_releases.specs.Found.{FormBy, LiveBy, LowersTable, ReleasedBy, ReleasesBy, ReleasesFound, TypedReleased}
use Rattle.table_releases.specs.declared.entries.Released.{Released}
use Rattle.table_releases.specs.declared.entries.Released.TheVariants.{Given, Opened}
use Rattle.xp_board.specs.declared.step.StepKind.TheVariants as kinds

-- it stays the last one in a hand with the same works
abbrev pub seen_same : (f i : ℕ) (t : PageType) (word : ℕ) (h k : Holdings) → work_on f k.works ≡ work_on f h.works → SeenLast f i t word h → SeenLast f i t word k
seen_same f i t word h k same l = record { work = l.work; here = same ∙ l.here; kind = l.kind; table = l.table; unmarked = l.unmarked; last = l.last; seen = l.seen; loaded = l.loaded }

pub typed_post : {b v : PortValue} {f i word g : ℕ} {t want : PageType} → SeesTyped b v f i t word g want → v.post ≡ b.post
typed_post l = ap (λ (q : PortValue). q.post) l.sees.hand

pub typed_frame : {g : ℕ} {b v : PortValue} {f i word : ℕ} {t want : PageType} → SeesTyped b v f i t word g want → g < v.post.machine.frames
typed_frame {g} l = subst (λ (p : Post). g < p.machine.frames) (sym (typed_post l)) l.inside

same_word : (i word : ℕ) (e x : Work) → (e ≡ x) ⊎ (e ≡ learned_work i word x) → e.word ≡ x.word
same_word i word e x (inl is) = ap (λ (y : Work). y.word) is
same_word i word e x (inr is) = ap (λ (y : Work). y.word) is ∙ learned_word i word x

-- a frame of the own works is of another type
pub typed_other : (b v : PortValue) (f i : ℕ) (t : PageType) (word g : ℕ) (want : PageType) → SeesTyped b v f i t word g want → IsOfOther g want v.holdings
typed_other b v f i t word g want l e here =
    let w = was_in (λ (y : Work). y.frame) g f (learned_work i word) b.holdings.works e (λ y. learned_frame i word y) (ap (λ (q : PortValue). work_on g q.holdings.works) (sym l.sees.hand) ∙ here) in
    ap (λ n. is_type (kind_fields n).kind want) (same_word i word e w.was w.is) ∙ ap (λ k. is_type (kind_fields w.was.word).kind k) (asks_below t i word g want l.asks) ∙ l.sees.above g w.was w.here

-- a word that is read as partial
pub form_partial_is : (x : ℕ) (k : KindWord) → kind_read x ≡ Some k → IsTrue (is_partial k) → form_of (kind_fields x) ≡ Partial
form_partial_is x k read partial = let parts = partial_parts k partial in ap form_of (fields_of x k read) ∙ rw (parts.0, parts.1) refl

-- ---- by the look at its kind word
module _ {b v : PortValue} {f i : ℕ} {t : PageType} {word g : ℕ} {want : PageType} {x : ℕ} (l : SeesKind b v f i t word g want x) where
  abbrev from : PortValue
  from = l.from

  abbrev pub from_seen : SeenLast f i t word l.from.holdings
  from_seen = looked_seen l.sees.sees

  abbrev pub now_seen : SeenLast f i t word v.holdings
  now_seen = seen_same f i t word l.from.holdings v.holdings (ap (λ (q : PortValue). work_on f q.holdings.works) l.same) from_seen

  pub kind_post : v.post ≡ b.post
  kind_post = ap (λ (q : PortValue). q.post) l.same ∙ typed_post l.sees

  pub kind_frame : g < v.post.machine.frames
  kind_frame = subst (λ (p : Post). g < p.machine.frames) (sym kind_post) l.sees.inside

  asked : (d : Demand) → demand_at t i word ≡ d → entry_demand l.look.finds.words f i ≡ d
  asked d is = seen_asks l.look.finds from_seen ∙ is

  module _ (k : KindWord) (read : kind_read x ≡ Some k) where
    at_g : kind_at l.look.finds.words g ≡ k
    at_g = ap (λ y. kind_fields y) l.look.finds.word ∙ fields_of x k read

    pub found_kind : k.kind ≡ want
    found_kind =
        ap (λ (y : KindWord). y.kind) (sym at_g)
        ∙ finds_kind l.look.finds f i t from_seen.work from_seen.here from_seen.kind from_seen.table from_seen.last g want (asked (Typed g want) l.sees.asks)

    pub found_unkept : IsTrue (is_partial k) → k.kept ≡ false
    found_unkept partial =
        ap (λ (y : KindWord). y.kept) (sym at_g)
        ∙ finds_unkept l.look.finds f i t from_seen.work from_seen.here from_seen.kind from_seen.table from_seen.last g want (asked (Typed g want) l.sees.asks) (subst (λ y. IsTrue (is_partial y)) (sym at_g) partial)

    referred : 0 < ref_count (l.look.finds.words (Refs g))
    referred =
        finds_referred l.look.finds f i t from_seen.work from_seen.here from_seen.kind from_seen.table from_seen.last g want (asked (Typed g want) l.sees.asks)

    leads : IsTrue (is_live k) ⊎ IsTrue (is_partial k || is_work k)
    leads =
        by_way
        (finds_leads l.look.finds f i t from_seen.work from_seen.here from_seen.kind from_seen.table from_seen.last g want (asked (Typed g want) l.sees.asks))
      where
        by_way : {B : Type 0} → IsTrue (is_live (kind_at l.look.finds.words g)) ⊎ (IsTrue (is_partial (kind_at l.look.finds.words g) || is_work (kind_at l.look.finds.words g)) × B) → IsTrue (is_live k) ⊎ IsTrue (is_partial k || is_work k)
        by_way (inl live) = inl (subst (λ y. IsTrue (is_live y)) at_g live)
        by_way (inr other) = inr (subst (λ y. IsTrue (is_partial y || is_work y)) at_g other.0)

    -- live, where nothing was noted as unsettled
    pub found_live : IsSettledTop b.holdings → k.validated ≡ true
    found_live settled =
        by_way
        (finds_leads l.look.finds f i t from_seen.work from_seen.here from_seen.kind from_seen.table from_seen.last g want (asked (Typed g want) l.sees.asks))
      where
        none_noted : from_seen.work.unsettled ≡ None
        none_noted = looked_settled l.sees.sees settled

        by_way : {A : Type 0} {B : Unsettled → Type 0} → IsTrue (is_live (kind_at l.look.finds.words g)) ⊎ (A × ((u : Unsettled) × (from_seen.work.unsettled ≡ Some u) × B u)) → k.validated ≡ true
        by_way (inl live) = subst (λ (y : KindWord). y.validated ≡ true) at_g live
        by_way (inr other) = absurd (let both : None ≡ Some other.1.0 = sym none_noted ∙ other.1.1 in cc)

    -- neither live nor partial: it is in work
    pub found_work : k.validated ≡ false → k.partial ≡ false → IsTrue (is_work k)
    found_work off none = in_work leads
      where
        in_work : IsTrue (is_live k) ⊎ IsTrue (is_partial k || is_work k) → IsTrue (is_work k)
        in_work (inl live) = absurd cc
        in_work (inr other) = grind arith

    -- and not in the own
    pub found_elsewhere : IsTrue (is_work k) → IsElsewhere g l.from.holdings
    found_elsewhere working = (no_work (work_on g l.from.holdings.works) refl, no_lock, no_ending)
      where
        finds : Finds l.from.post.machine l.from.post.vcpu l.from.holdings (Kind g) x
        finds = l.look.finds

        no_work : (o : Option Work) → work_on g l.from.holdings.works ≡ o → o ≡ None
        no_work None here = refl
        no_work (Some e) here =
            let same = work_word l.from.post.machine l.from.post.vcpu l.from.holdings g x e finds here in
            let off = typed_other b l.from f i t word g want l.sees e here in
            let on : is_type (kind_fields e.word).kind want ≡ true =
            ap (λ y. is_type (kind_fields y).kind want) (sym same) ∙ ap (λ (y : KindWord). is_type y.kind want) (fields_of x k read) ∙ ap (λ y. is_type y want) found_kind ∙ when_eq _ _ refl in
            absurd (let both : true ≡ false = sym on ∙ off in cc)

        unlocked : is_locked k ≡ false
        unlocked = grind arith

        no_lock : lock_on g l.from.holdings.locks ≡ None
        no_lock =
            first_by-none (λ (e : Lock). e.frame) g l.from.holdings.locks
            (subst (λ (u : Holdings). locks_on g u.locks ≡ 0) finds.mine
            (nobody_locks l.from.post.machine finds.words finds.hands finds.sound.alone g (ap is_locked at_g ∙ unlocked) l.from.post.vcpu finds.real))

        no_ending : ending_of g l.from.holdings.ending ≡ None
        no_ending =
            let none = counted_alive l.from.post.machine finds.words finds.hands finds.sound.alone g l.from.post.vcpu finds.real referred in
            first_by-none (λ (e : Ending). e.frame) g l.from.holdings.ending (subst (λ (u : Holdings). endings_of g u.ending ≡ 0) finds.mine (omega (arith, none)))

-- ---- The steps of a release, from before its looks on.
-- ---- a step that sheds the entry, and an exchange that is to bring a partial frame into the own works
pub sheds : (v w : PortValue) (p : Place) (f i y : ℕ) → Moves v w p Load kinds.Look (Some (Shed f i)) y → Does v w (ShedsAt p f i)
sheds v w p f i y m = does_as v w (Only (sheds_at p f i y)) (ShedsAt p f i) (λ vs one. (y, one)) (does_one v w p Load kinds.Look (Some (Shed f i)) y m)

pub swaps : (v w : PortValue) (g x : ℕ) (k : KindWord) (found : ℕ) → kind_read x ≡ Some k → Moves v w (Kind g) (Cas (kind_write k) (kind_write (resumed_kind k))) kinds.Kind None found →
    Does v w (Only (swaps_kind g x (resumed_kind (kind_fields x)) found))
swaps v w g x k found read m =
    subst (λ y. Does v w (Only (visit (Kind g) (Cas y (kind_write (resumed_kind (kind_fields x)))) found))) (sym (read_is x k read).1)
    (subst (λ y. Does v w (Only (visit (Kind g) (Cas (kind_write k) (kind_write (resumed_kind y))) found))) (sym (fields_of x k read)) (does_one v w (Kind g) (Cas (kind_write k) (kind_write (resumed_kind k))) kinds.Kind None found m))

-- ---- an entry that was looked at
module _ {b v : PortValue} {f i : ℕ} {t : PageType} {word : ℕ} (l : SeesLast b v f i t word) where
  pub last_found : (w : PortValue) (answer : Result Released Stop) (d : Demand) → demand_at t i word ≡ d → Does v w (λ rs. ReleasesBy b.post.machine f i answer d rs) → ReleasesFound b w f i t answer
  last_found w answer d asks way =
      does_as b w (Then (Only (saw_cell f i word)) (λ rs. ReleasesBy b.post.machine f i answer (demand_at t i word) rs)) (λ vs. ReleasedBy b.post.machine f i t answer vs) (λ vs steps. (word, steps))
      (does_then b v w (Only (saw_cell f i word)) (λ rs. ReleasesBy b.post.machine f i answer (demand_at t i word) rs) (does_one b v (Cell f i) Load kinds.Look None word l.look)
      (subst (λ e. Does v w (λ rs. ReleasesBy b.post.machine f i answer e rs)) (sym asks) way))

-- ---- and then the frame that it names
module _ {b v : PortValue} {f i : ℕ} {t : PageType} {word g : ℕ} {want : PageType} {x : ℕ} (l : SeesKind b v f i t word g want x) where
  pub kind_came : Came b v
  kind_came = came_trans b l.from v (moves_came b l.from (Cell f i) Load kinds.Look None word l.sees.sees.look) (moves_came l.from v (Kind g) Load kinds.Look None x l.look)

  pub kind_found : (w : PortValue) (answer : Result Released Stop) (r : Form) → form_of (kind_fields x) ≡ r → Does v w (λ ks. FormBy b.post.machine f i g want x answer r ks) → ReleasesFound b w f i t answer
  kind_found w answer r is way =
      let ways : List Visit → Type 0 = λ ks. FormBy b.post.machine f i g want x answer (form_of (kind_fields x)) ks in
      last_found l.sees.sees w answer (Typed g want) l.sees.asks
      (does_as l.from w (Then (Only (saw_kind g x)) ways) (λ vs. TypedReleased b.post.machine f i g want answer vs) (λ vs steps. (x, steps))
      (does_then l.from v w (Only (saw_kind g x)) ways (does_one l.from v (Kind g) Load kinds.Look None x l.look) (subst (λ e. Does v w (λ ks. FormBy b.post.machine f i g want x answer e ks)) (sym is) way)))

  -- ---- live
  module _ (live : is_live_word x ≡ true) (w : PortValue) (y : ℕ) (look : Moves v w (Refs g) Load kinds.Look (Some (Shed f i)) y) where
    live_found : (z : PortValue) (answer : Result Released Stop) (table : Bool) → is_table want ≡ table → Does w z (λ ls. LiveBy g want answer table ls) → ReleasesFound b z f i t answer
    live_found z answer table is way =
        kind_found z answer Live (ap (λ c. if c then Live else form_of (record (kind_fields x) { validated = false })) live)
        (does_then v w z (ShedsAt (Refs g) f i) (λ ls. LiveBy g want answer (is_table want) ls) (sheds v w (Refs g) f i y look) (subst (λ c. Does w z (λ ls. LiveBy g want answer c ls)) (sym is) way))

    -- a frame without entries
    pub plain_found : (z : PortValue) → is_table want ≡ false → DropsPlain w z g want → ReleasesFound b z f i t (Ok Given)
    plain_found z plain d = live_found z (Ok Given) false plain (does_as w z (DropsBy g want) (λ ls. LiveBy g want (Ok Given) false ls) (λ vs drops. (refl, drops)) d)

    -- a table
    module _ (z : PortValue) (last : Bool) (d : DropsType w z g last) (table : is_table want ≡ true) where
      lowered_found : (q : PortValue) (answer : Result Released Stop) → Does z q (λ ls. LowersTable g answer last ls) → ReleasesFound b q f i t answer
      lowered_found q answer way =
          let ways : List Visit → Type 0 = λ ls. LowersTable g answer ((kind_fields d.found).number == 1) ls in
          live_found q answer true table
          (does_as w q (Then (Only (visit (Kind g) (Add one_down) d.found)) ways) (λ ls. LiveBy g want answer true ls) (λ vs steps. (d.found, steps))
          (does_then w z q (Only (visit (Kind g) (Add one_down) d.found)) ways (does_one w z (Kind g) (Add one_down) kinds.Kind None d.found d.lowers.step)
          (subst (λ c. Does z q (λ ls. LowersTable g answer c ls)) d.counts way)))

      pub closed_found : last ≡ true → ReleasesFound b z f i t (Ok (Opened g 512 true))
      closed_found is =
          lowered_found z (Ok (Opened g 512 true))
          (subst (λ c. Does z z (λ ls. LowersTable g (Ok (Opened g 512 true)) c ls)) (sym is) (does_as z z Nothing (λ ls. LowersTable g (Ok (Opened g 512 true)) true ls) (λ vs none. (refl, none)) (does_nothing z)))

      pub counted_found : last ≡ false → (q : PortValue) → Puts z q g → ReleasesFound b q f i t (Ok Given)
      counted_found is q p =
          lowered_found q (Ok Given)
          (subst (λ c. Does z q (λ ls. LowersTable g (Ok Given) c ls)) (sym is) (does_as z q (PutBy g) (λ ls. LowersTable g (Ok Given) false ls) (λ vs put. (refl, put)) p))

-- ---- in another vCPU's hand
pub form_other : (k : KindWord) → k.validated ≡ false → k.partial ≡ false → (P : Form → Type 0) → P InWork → P Dead → P (form_of k)
form_other k off none P work dead = rw (off, none) (elim k.locked as (λ c. P (if c then InWork else Dead)) [ true ↦ work | false ↦ dead ])

pub busy_found : {b v : PortValue} {f i g x : ℕ} {want : PageType} {word : ℕ} {t : PageType} → SeesKind b v f i t word g want x → (kind_fields x).validated ≡ false → (kind_fields x).partial ≡ false →
    ReleasesFound b v f i t (Err (Paused (Busy g x)))
busy_found {b} {v} {f} {i} {g} {x} {want} l off none =
    let stays : (r : Form) → ((vs : _) → Nothing vs → FormBy b.post.machine f i g want x (Err (Paused (Busy g x))) r vs) → Does v v (λ ks. FormBy b.post.machine f i g want x (Err (Paused (Busy g x))) r ks) =
    λ r so. does_as v v Nothing (λ ks. FormBy b.post.machine f i g want x (Err (Paused (Busy g x))) r ks) so (does_nothing v) in
    kind_found l v (Err (Paused (Busy g x))) (form_of (kind_fields x)) refl
    (form_other (kind_fields x) off none (λ r. Does v v (λ ks. FormBy b.post.machine f i g want x (Err (Paused (Busy g x))) r ks)) (stays InWork (λ vs no. (refl, no))) (stays Dead (λ vs no. (refl, no))))
