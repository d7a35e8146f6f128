-- Releases on a board that tells all words: what is left by each of their ways.
use Rattle.std.proofs.Common.{◌≡◌, ◌⊎◌, ℕ, ◌==◌, if◌then◌else◌, Bool, true, false, Option, None, Result, Ok, Err, refl, sym, ap, ◌∙◌, subst, inl, inr, ◌≢◌, ◌<◌, ◌^◌, ◌%◌, Some}
use Rattle.xp_words.specs.Entries.{demand_at}
use Rattle.xp_words.specs.KindWords.{kind_fields, kind_read, kind_write}
use Rattle.xp_words.specs.PageTypes.{is_table}
use Rattle.xp_words.specs.declared.entry.Demand.{Demand}
use Rattle.xp_words.specs.declared.entry.Demand.TheVariants.{Bad, Nothing, Read, Typed}
use Rattle.xp_words.specs.declared.kind.PageType.{PageType}
use Rattle.xp_words.specs.declared.place.Place.TheVariants.{Cell, Kind, Refs, Clock}
use Rattle.xp_words.specs.declared.reply.Pause.TheVariants.{Busy}
use Rattle.xp_words.specs.declared.reply.Stop.{Stop}
use Rattle.xp_words.specs.declared.reply.Stop.TheVariants.{Paused}
use Rattle.xp_board.specs.declared.step.Act.TheVariants.{Add, Load, Cas, Store}
use Rattle.xp_board.specs.declared.step.Mark.{Mark}
use Rattle.xp_board.specs.KindSteps.{Live, form_of, resumed_kind}
use Rattle.xp_board.specs.Readings.{is_live_word}
use Rattle.xp_board.specs.RefSteps.{one_down}
use Rattle.xp_board.specs.Told.{PortValue, is_telling, told_word}
use Rattle.step_maker.specs.Moves.{Moves}
use Rattle.step_maker.specs.Plain.{Leaves, Words, change}
use Rattle.step_maker.proofs.Telling.{load_tells, moves_telling, told_there, leaves}
use Rattle.frame_words.specs.Plain.{put, stamp_now}
use Rattle.frame_words.proofs.Twinning.{low_rest}
use Rattle.frame_types.specs.Lowering.{DropsType}
use Rattle.frame_types.specs.Plain.{dropped_plain, set_kind}
use Rattle.table_releases.specs.Between.{SeesKind, SeesLast, Resumed}
use Rattle.table_releases.specs.Plain.{FormPlainly, LivePlainly, ReleasesPlainly, TwinRelease, lowered_type, PartialPlainly, resumed_words}
use Rattle.table_releases.specs.declared.entries.Released.{Released}
use Rattle.table_releases.specs.declared.entries.Released.TheVariants.{Given, Opened}
use Rattle.table_releases.proofs.FrameSeen.{form_other, form_partial_is}
use Rattle.xp_words.specs.declared.kind.KindWord.{KindWord}
use Rattle.xp_board.specs.Acts.{left_by}
use Rattle.xp_board.specs.Steps.{is_same}
use Rattle.xp_board.proofs.KindForms.{fields_of}
use Rattle.xp_board.proofs.Sums.{when_eq}
use Rattle.kind_words.specs.Kinds.{dead_kind}
use Rattle.kind_words.proofs.KindFacts.{clock_is_small, read_is}
use Rattle.table_releases.specs.Found.{has_recorded}
use Rattle.table_releases.proofs.Recording.{recorded_some}
use Rattle.xp_board.specs.declared.step.StepKind.TheVariants as kinds

-- a look leaves all words
pub look_words : (v w : PortValue) (p : _) (mark : Option Mark) (x : ℕ) → Moves v w p Load kinds.Look mark x → is_telling v ≡ true → told_word w ≡ told_word v
look_words v w p mark x m telling = λ i q. load_tells v w p kinds.Look mark x m telling q i

module _ {b v : PortValue} {f i : ℕ} {t : PageType} {word : ℕ} (l : SeesLast b v f i t word) where
  pub last_telling : is_telling b ≡ true → is_telling v ≡ true
  last_telling telling = moves_telling b v (Cell f i) Load kinds.Look None word l.look ∙ telling

  pub last_words : is_telling b ≡ true → told_word v ≡ told_word b
  last_words telling = look_words b v (Cell f i) None word l.look telling

  pub twin_last : (w : PortValue) (answer : Result Released Stop) (d : Demand) → demand_at t i word ≡ d → (is_telling b ≡ true → ReleasesPlainly w (told_word b) answer d) → TwinRelease b w f t i answer
  twin_last w answer d asks way telling =
      subst (λ y. ReleasesPlainly w (told_word b) answer (demand_at t i y)) (sym (told_there b v (Cell f i) Load kinds.Look None word l.look telling)) (subst (ReleasesPlainly w (told_word b) answer) (sym asks) (way telling))

  -- shed, and nothing more
  pub nothing_twin : (w : PortValue) (p : _) (mark : Option Mark) (y : ℕ) → Moves v w p Load kinds.Look mark y → (demand_at t i word ≡ Nothing) ⊎ (demand_at t i word ≡ Bad) → TwinRelease b w f t i (Ok Given)
  nothing_twin w p mark y m (inl asks) = twin_last w (Ok Given) Nothing asks (λ telling. (refl, λ q j. (look_words v w p mark y m (last_telling telling) ∙ last_words telling) j q))
  nothing_twin w p mark y m (inr asks) = twin_last w (Ok Given) Bad asks (λ telling. (refl, λ q j. (look_words v w p mark y m (last_telling telling) ∙ last_words telling) j q))

  pub plain_twin : (w z : PortValue) (p : _) (mark : Option Mark) (y g : ℕ) → Moves v w p Load kinds.Look mark y → demand_at t i word ≡ Read g → (is_telling w ≡ true → Leaves z (put g (told_word w))) → TwinRelease b z f t i (Ok Given)
  plain_twin w z p mark y g m asks puts =
      twin_last z (Ok Given) (Read g) asks
      (λ telling.
      (refl, subst (λ (n : Words). Leaves z (put g n)) (look_words v w p mark y m (last_telling telling) ∙ last_words telling) (puts (moves_telling v w p Load kinds.Look mark y m ∙ last_telling telling))))

module _ {b v : PortValue} {f i : ℕ} {t : PageType} {word g : ℕ} {want : PageType} {x : ℕ} (l : SeesKind b v f i t word g want x) where
  from_telling : is_telling b ≡ true → is_telling l.from ≡ true
  from_telling telling = last_telling l.sees.sees telling

  pub kind_telling : is_telling b ≡ true → is_telling v ≡ true
  kind_telling telling = moves_telling l.from v (Kind g) Load kinds.Look None x l.look ∙ from_telling telling

  pub kind_words : is_telling b ≡ true → told_word v ≡ told_word b
  kind_words telling = look_words l.from v (Kind g) None x l.look (from_telling telling) ∙ last_words l.sees.sees telling

  pub kind_told : is_telling b ≡ true → told_word b (Kind g) ≡ x
  kind_told telling = ap (λ (m : Words). m (Kind g)) (sym (last_words l.sees.sees telling)) ∙ told_there l.from v (Kind g) Load kinds.Look None x l.look (from_telling telling)

  pub twin_kind : (w : PortValue) (answer : Result Released Stop) → (is_telling b ≡ true → FormPlainly w (told_word b) g want answer (form_of (kind_fields x))) → TwinRelease b w f t i answer
  twin_kind w answer way =
      twin_last l.sees.sees w answer (Typed g want) l.sees.asks
      (λ telling. subst (λ y. FormPlainly w (told_word b) g want answer (form_of (kind_fields y))) (sym (kind_told telling)) (way telling))

  -- ---- in another vCPU's hand
  pub busy_twin : (kind_fields x).validated ≡ false → (kind_fields x).partial ≡ false → TwinRelease b v f t i (Err (Paused (Busy g x)))
  busy_twin off none =
      twin_kind v (Err (Paused (Busy g x)))
      (λ telling.
      form_other (kind_fields x) off none (λ r. FormPlainly v (told_word b) g want (Err (Paused (Busy g x))) r)
      (ap (λ y. Err (Paused (Busy g y))) (sym (kind_told telling)), λ q j. kind_words telling j q) (ap (λ y. Err (Paused (Busy g y))) (sym (kind_told telling)), λ q j. kind_words telling j q))

  -- ---- live
  module _ (live : is_live_word x ≡ true) (w : PortValue) (mark : Option Mark) (y : ℕ) (look : Moves v w (Refs g) Load kinds.Look mark y) where
    live_telling : is_telling b ≡ true → is_telling w ≡ true
    live_telling telling = moves_telling v w (Refs g) Load kinds.Look mark y look ∙ kind_telling telling

    live_words : is_telling b ≡ true → told_word w ≡ told_word b
    live_words telling = look_words v w (Refs g) mark y look (kind_telling telling) ∙ kind_words telling

    live_twin : (z : PortValue) (answer : Result Released Stop) (table : Bool) → is_table want ≡ table → (is_telling b ≡ true → LivePlainly z (told_word b) g want answer table) → TwinRelease b z f t i answer
    live_twin z answer table is way =
        twin_kind z answer
        (λ telling.
        subst (λ r. FormPlainly z (told_word b) g want answer r) (sym (ap (λ c. if c then Live else form_of (record (kind_fields x) { validated = false })) live)) (subst (LivePlainly z (told_word b) g want answer) (sym is) (way telling)))

    pub dropped_twin : (z : PortValue) → is_table want ≡ false → (is_telling w ≡ true → Leaves z (dropped_plain g want (told_word w))) → TwinRelease b z f t i (Ok Given)
    dropped_twin z plain drops = live_twin z (Ok Given) false plain (λ telling. (refl, subst (λ (n : Words). Leaves z (dropped_plain g want n)) (live_words telling) (drops (live_telling telling))))

    module _ (z : PortValue) (last : Bool) (d : DropsType w z g last) (table : is_table want ≡ true) (lowers : is_telling w ≡ true → Leaves z (change (Add one_down) (Kind g) (told_word w))) where
      number_is : is_telling b ≡ true → ((kind_fields (told_word b (Kind g))).number == 1) ≡ last
      number_is telling = ap (λ (m : Words). (kind_fields (m (Kind g))).number == 1) (sym (live_words telling)) ∙ ap (λ n. (kind_fields n).number == 1) (told_there w z (Kind g) (Add one_down) kinds.Kind None d.found d.lowers.step (live_telling telling)) ∙ sym d.counts

      lowered : is_telling b ≡ true → Leaves z (lowered_type g (told_word b))
      lowered telling = subst (λ (n : Words). Leaves z (lowered_type g n)) (live_words telling) (lowers (live_telling telling))

      pub closed_twin : last ≡ true → TwinRelease b z f t i (Ok (Opened g 512 true))
      closed_twin is = live_twin z (Ok (Opened g 512 true)) true table (λ telling. rw (number_is telling ∙ is) (refl, lowered telling))

      pub counted_twin : last ≡ false → (q : PortValue) → (is_telling z ≡ true → Leaves q (put g (told_word z))) → TwinRelease b q f t i (Ok Given)
      counted_twin is q puts =
          live_twin q (Ok Given) true table
          (λ telling.
          let after : told_word z ≡ lowered_type g (told_word b) = λ j p. lowered telling p j in
          let given = subst (λ (n : Words). Leaves q (put g n)) after (puts (moves_telling w z (Kind g) (Add one_down) kinds.Kind None d.found d.lowers.step ∙ live_telling telling)) in
          rw (number_is telling ∙ is) (refl, given))

-- ---- A partial frame on a board that tells all words: its exchange is never lost, and what is left then.

left_same : (e n x : ℕ) → x ≡ e → left_by (Cas e n) x ≡ n
unfolding left_by
left_same e n x same = rw (when_eq x e same) refl

-- no other word is found where all words are told
pub never_lost : {v w : PortValue} {g x : ℕ} {k : KindWord} {a : _} {found : ℕ} {b : PortValue} {f i word : ℕ} {t want : PageType} → SeesKind b v f i t word g want x → kind_read x ≡ Some k → Moves v w (Kind g) a kinds.Kind None found →
    found ≢ kind_write k → (e : _) → TwinRelease b w f t i e
never_lost {v} {w} {g} {x} {k} {a} {found} l read m off e telling =
    let here = told_there v w (Kind g) a kinds.Kind None found m (kind_telling l telling) in
    let same : found ≡ kind_write k = sym here ∙ ap (λ (n : Words). n (Kind g)) (kind_words l telling) ∙ kind_told l telling ∙ (read_is x k read).1 in
    absurd (off same)

module _ {b v : PortValue} {f i : ℕ} {t : PageType} {word g : ℕ} {want : PageType} {k : KindWord} (r : Resumed b v f i t word g want k) where
  pub in_telling : is_telling b ≡ true → is_telling v ≡ true
  in_telling telling = moves_telling r.from v (Kind g) _ kinds.Kind None (kind_write k) r.step ∙ kind_telling r.sees telling

  pub in_words : is_telling b ≡ true → told_word v ≡ resumed_words g (told_word b)
  unfolding left_by
  in_words telling =
      let there = kind_telling r.sees telling in
      let told = kind_told r.sees telling in
      let before = kind_words r.sees telling in
      let one : told_word v ≡ change (Cas (kind_write k) (kind_write (resumed_kind k))) (Kind g) (told_word r.from) = λ j q. leaves r.from v (Kind g) _ kinds.Kind None (kind_write k) r.step there q j in
      let two = one ∙ ap (λ (m : Words). change (Cas (kind_write k) (kind_write (resumed_kind k))) (Kind g) m) before in
      let fields : kind_fields (told_word b (Kind g)) ≡ k = ap kind_fields told ∙ fields_of r.found k r.read in
      let three : left_by (Cas (kind_write k) (kind_write (resumed_kind k))) (told_word b (Kind g)) ≡ kind_write (resumed_kind (kind_fields (told_word b (Kind g)))) =
      left_same (kind_write k) (kind_write (resumed_kind k)) (told_word b (Kind g)) (told ∙ (read_is r.found k r.read).1) ∙ ap (λ y. kind_write (resumed_kind y)) (sym fields)
      in
      two ∙ (λ j q. if is_same q (Kind g) then three j else told_word b q)

  told_fields : is_telling b ≡ true → kind_fields (told_word b (Kind g)) ≡ k
  told_fields telling = ap kind_fields (kind_told r.sees telling) ∙ fields_of r.found k r.read

  partial_twin : (z : PortValue) (a : Released) (opened : Bool) → has_recorded want k ≡ opened → (is_telling b ≡ true → PartialPlainly z (told_word b) g want (Ok a) opened) → TwinRelease b z f t i (Ok a)
  partial_twin z a opened is way =
      twin_kind r.sees z (Ok a)
      (λ telling.
      subst (λ c. FormPlainly z (told_word b) g want (Ok a) c) (sym (form_partial_is r.found k r.read r.partial))
      (subst (PartialPlainly z (told_word b) g want (Ok a)) (sym (ap (λ y. has_recorded want y) (told_fields telling) ∙ is)) (way telling)))

  pub table_twin : (w : PortValue) (mark : Option Mark) (y : ℕ) → Moves v w (Refs g) Load kinds.Look mark y → has_recorded want k ≡ true → TwinRelease b w f t i (Ok (Opened g k.progress false))
  table_twin w mark y m opened =
      partial_twin w (Opened g k.progress false) true opened
      (λ telling.
      let fields = told_fields telling in (
        ap (λ (y : KindWord). Ok (Opened g y.progress false)) (sym fields),
        subst (λ (y : KindWord). 0 < y.progress) (sym fields) (recorded_some want k opened),
        λ q j. (look_words v w (Refs g) mark y m (in_telling telling) ∙ in_words telling) j q,
      ))

  pub dead_twin : (w d z : PortValue) (mark : Option Mark) (clock x : ℕ) → Moves v w Clock Load kinds.Look mark clock → Moves w d (Kind g) (Store (kind_write (dead_kind want k.unflushed clock))) kinds.Kind None x →
      (is_telling d ≡ true → Leaves z (put g (told_word d))) → has_recorded want k ≡ false → TwinRelease b z f t i (Ok Given)
  dead_twin w d z mark clock x look store puts shut =
      partial_twin z Given false shut
      (λ telling.
      let at_w = moves_telling v w Clock Load kinds.Look mark clock look ∙ in_telling telling in
      let at_d = moves_telling w d (Kind g) _ kinds.Kind None x store ∙ at_w in
      let words : told_word w ≡ resumed_words g (told_word b) = look_words v w Clock mark clock look (in_telling telling) ∙ in_words telling in
      let after : told_word d ≡ set_kind g (dead_kind want k.unflushed clock) (told_word w) = λ j q. leaves w d (Kind g) _ kinds.Kind None x store at_w q j in
      let stamp : clock ≡ stamp_now (told_word b) =
      sym (low_rest clock (clock_is_small v.post.machine v.post.vcpu v.holdings clock look.finds))
      ∙ ap (λ y. y % 2 ^ 36) (sym (told_there v w Clock Load kinds.Look mark clock look (in_telling telling)) ∙ ap (λ (m : Words). m Clock) (in_words telling))
      in
      let whole = after ∙ ap (λ (m : Words). set_kind g (dead_kind want k.unflushed clock) m) words ∙ ap (λ c. set_kind g (dead_kind want k.unflushed c) (resumed_words g (told_word b))) stamp
      ∙ ap (λ (y : KindWord). set_kind g (dead_kind want y.unflushed (stamp_now (told_word b))) (resumed_words g (told_word b))) (sym (told_fields telling))
      in
      (refl, subst (λ (m : Words). Leaves z (put g m)) whole (puts at_d)))
