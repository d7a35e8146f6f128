-- What a vCPU learns of a frame by the words that it finds: facts of every sound state.
use Rattle.std.proofs.Common.{◌≡◌, ℕ, ◌+◌, ◌^◌, ◌<◌, ◌≤◌, is_some, true, false, length, Option, Some, None, IsTrue, refl, sym, ap, ◌∙◌, subst, arith}
use Rattle.std.proofs.lemmas.Bool.Decides.{nat_tests}
use Rattle.xp_words.specs.Machine.{Machine}
use Rattle.xp_words.specs.declared.kind.KindWord.{KindWord}
use Rattle.xp_words.specs.declared.kind.PageType.{PageType}
use Rattle.xp_words.specs.declared.place.Place.{Place}
use Rattle.xp_words.specs.declared.place.Place.TheVariants.{Clock, Refs, Kind}
use Rattle.xp_words.specs.KindWords.{is_kind, kind_read, kind_fields, kind_write}
use Rattle.xp_words.specs.Places.{Sizes, sizes_of, is_place}
use Rattle.xp_words.specs.RefWords.{ref_read}
use Rattle.xp_words.proofs.KindLaws.{kind_write-read}
use Rattle.xp_board.specs.declared.holdings.Holdings.{Holdings}
use Rattle.xp_board.specs.declared.holdings.Work.{Work}
use Rattle.xp_board.specs.Hands.{refs_to, typed_to, hand, typed_hand, works_on, work_on, without_work}
use Rattle.xp_board.specs.Knowledge.{knows_owner, knows_live}
use Rattle.xp_board.specs.KindSteps.{MayDrop}
use Rattle.xp_board.specs.Readings.{kind_at, is_live, is_partial, is_dead, owner_of, ref_count, type_count, kind_stamp}
use Rattle.xp_board.specs.Recorded.{CountsAgree}
use Rattle.xp_board.specs.Sound.{is_busy}
use Rattle.xp_board.specs.Spelling.{IsSpelling, is_kind_in, is_ref_in}
use Rattle.xp_board.specs.Told.{Finds}
use Rattle.xp_board.proofs.RefForms.{count_fits}
use Rattle.xp_board.proofs.Counted.{typed_counted, entries-fewer, hand_is}
use Rattle.xp_board.proofs.HeldByForm.{live_idle}
use Rattle.xp_board.proofs.KindForms.{fields_of, live_unmarked, marked_unlive}
use Rattle.xp_board.proofs.KindReadings.{live_count, partial_idle, dead_idle, stamp_of}
use Rattle.xp_board.proofs.ListCounts.{first_by-none, times_by-without_one}
use Rattle.xp_board.proofs.Sums.{hands-plus, hands-part}
use Rattle.xp_board.proofs.WorkFacts.{Works, works_facts}
use Rattle.xp_board.proofs.Works.{nobody_has, one_works}
use Rattle.xp_board.proofs.Owners.{owner_is_real}
use Rattle.xp_board.proofs.Numbers.{refs_there}
use Rattle.kind_words.proofs.RowSteps.{kind_there}

-- ---- a clock value has a place in a kind word
pub clock_is_small : (n : Machine) (s : ℕ) (h : Holdings) (w : ℕ) → Finds n s h Clock w → w < 2 ^ 36
unfolding IsSpelling is_place
clock_is_small n s h w finds =
    let spelled = subst (λ y. IsSpelling n Clock y) finds.word (finds.sound.spelled.spelled Clock refl) in
    let most = spelled.1 in
    omega arith

-- ---- what lives is not dead
pub live_undead : (k : KindWord) → IsTrue (is_live k) → is_dead k ≡ false
live_undead k live = grind (arith, nat_tests)

-- ---- a kind word is a spelling
pub record IsKindFound (n : Machine) (w : ℕ) : Type 0 where
  pub small : w < 2 ^ 64
  pub kind : KindWord
  pub read : kind_read w ≡ Some kind
  pub fields : kind_fields w ≡ kind
  pub is : IsTrue (is_kind kind)
  pub written : w ≡ kind_write kind
  pub fits : IsTrue (is_kind_in n (Some kind))

kind_by : (n : Machine) (w : ℕ) (o : Option KindWord) → kind_read w ≡ o → IsTrue (is_kind_in n o) → (k : KindWord) × (kind_read w ≡ Some k) × IsTrue (is_kind_in n (Some k))
kind_by n w (Some k) read is = (k, read, is)
kind_by n w None read is = absurd (cc)

pub kind_found : (n : Machine) (s : ℕ) (h : Holdings) (f w : ℕ) → f < n.frames → Finds n s h (Kind f) w → IsKindFound n w
unfolding IsSpelling
kind_found n s h f w frame finds =
    let spelled = subst (λ y. IsSpelling n (Kind f) y) finds.word (finds.sound.spelled.spelled (Kind f) (kind_there (sizes_of n) f frame)) in
    let by = kind_by n w (kind_read w) refl spelled in
    let written = kind_write-read w by.0 by.1 in
    record {
      small = subst (λ y. y < 2 ^ 64) finds.word (finds.sound.spelled.small (Kind f));
      kind = by.0;
      read = by.1;
      fields = fields_of w by.0 by.1;
      is = written.0;
      written = sym written.1;
      fits = by.2;
    }

pub kind_is_some : (n : Machine) (s : ℕ) (h : Holdings) (f w : ℕ) → f < n.frames → Finds n s h (Kind f) w → IsTrue (is_some (kind_read w))
kind_is_some n s h f w frame finds = let found = kind_found n s h f w frame finds in rw found.read refl

-- a word that is read is the spelling of what it is read as
pub read_is : (w : ℕ) (k : KindWord) → kind_read w ≡ Some k → IsTrue (is_kind k) × (w ≡ kind_write k)
read_is w k read = let written = kind_write-read w k read in (written.0, sym written.1)

-- ---- type counts and an untyped reference are within the reference count
pub types_beside : (z : Sizes) (m : Place → ℕ) (h : ℕ → Holdings) (s f : ℕ) → s < z.vcpus → CountsAgree z m h → type_count (kind_at m f) + refs_to f (h s).refs ≤ ref_count (m (Refs f))
types_beside z m h s f real counts =
    let all = counts.refs f in
    let typed = counts.types f in
    let fewer = entries-fewer z m h f in
    let both = hands-plus (λ u. refs_to f u.refs) (typed_hand f) (hand f) z h (hand_is f) in
    let mine = hands-part (λ u. refs_to f u.refs) z h s real in
    omega (arith, all, typed, fewer, both, mine)

count_within : (n : Machine) (w : ℕ) → IsTrue (is_ref_in n (ref_read w)) → ref_count w ≤ n.limit
unfolding ref_count
count_within n w is = count_fits n (ref_read w) is

-- the number of a live word that was found by a vCPU with an untyped reference is below the limit
pub type_is_below : (n : Machine) (s : ℕ) (h : Holdings) (f w : ℕ) (k : KindWord) → f < n.frames → Finds n s h (Kind f) w → kind_fields w ≡ k → IsTrue (is_live k) → 0 < refs_to f h.refs → k.number < n.limit
unfolding IsSpelling
type_is_below n s h f w k frame finds fields live held =
    let m = finds.words in
    let within = count_within n (m (Refs f)) (finds.sound.spelled.spelled (Refs f) (refs_there (sizes_of n) f frame)) in
    let beside = types_beside (sizes_of n) m finds.hands s f finds.real finds.sound.counts in
    let is : kind_at m f ≡ k = ap (λ y. kind_fields y) finds.word ∙ fields in
    let number : type_count (kind_at m f) ≡ k.number = ap (λ y. type_count y) is ∙ live_count k live in
    let mine : refs_to f (finds.hands s).refs ≡ refs_to f h.refs = ap (λ (u : Holdings). refs_to f u.refs) finds.mine in
    omega (arith, within, beside, number, mine, held)

-- ---- a frame that no vCPU works on
pub idle_apart : (n : Machine) (s : ℕ) (h : Holdings) (f w : ℕ) → Finds n s h (Kind f) w → is_busy (kind_fields w) ≡ false → work_on f h.works ≡ None
idle_apart n s h f w finds idle =
    subst (λ (u : Holdings). work_on f u.works ≡ None) finds.mine
    (nobody_has n finds.words finds.hands finds.sound.alone f (ap (λ y. is_busy (kind_fields y)) finds.word ∙ idle) s finds.real)

module _ (n : Machine) (s : ℕ) (h : Holdings) (f w : ℕ) (k : KindWord) (finds : Finds n s h (Kind f) w) (fields : kind_fields w ≡ k) where
  apart_by : is_busy k ≡ false → work_on f h.works ≡ None
  apart_by idle = idle_apart n s h f w finds (ap is_busy fields ∙ idle)

  pub live_apart : IsTrue (is_live k) → 0 < k.number → work_on f h.works ≡ None
  live_apart live some = apart_by (live_idle k live some)

  pub dead_apart : IsTrue (is_dead k) → work_on f h.works ≡ None
  dead_apart dead = apart_by (dead_idle k dead)

  pub partial_apart : IsTrue (is_partial k) → work_on f h.works ≡ None
  partial_apart partial = apart_by (partial_idle k partial)

  -- what the vCPU knows live is live, with that type
  pub known_live : (t : PageType) → IsTrue (knows_live (sizes_of n) f t h) → IsTrue (is_live k) × (k.kind ≡ t)
  known_live t knows =
      let known = (finds.sound.found s finds.real).lives f t (subst (λ (u : Holdings). IsTrue (knows_live (sizes_of n) f t u)) (sym finds.mine) knows) in
      subst (λ y. IsTrue (is_live y) × (y.kind ≡ t)) (ap (λ y. kind_fields y) finds.word ∙ fields) known

-- ---- the word of which a typed reference is given back
pub record IsFoundLive (n : Machine) (f w : ℕ) (h : Holdings) : Type 0 where
  pub small : w < 2 ^ 64
  pub live : (kind_fields w).validated ≡ true
  pub some : 0 < (kind_fields w).number
  pub unmarked : (kind_fields w).unflushed ≡ false
  pub kind : (t : PageType) → IsTrue (knows_live (sizes_of n) f t h) → (kind_fields w).kind ≡ t
  pub apart : work_on f h.works ≡ None

pub found_live : (n : Machine) (s : ℕ) (h : Holdings) (f w : ℕ) → Finds n s h (Kind f) w → MayDrop n f h → IsFoundLive n f w h
found_live n s h f w finds may =
    let m = finds.words in
    let known = known_live n s h f w (kind_fields w) finds refl may.kind may.live in
    let live : (kind_at m f).validated ≡ true = subst (λ y. (kind_fields y).validated ≡ true) (sym finds.word) known.0 in
    let counted = typed_counted (sizes_of n) m finds.hands s f finds.real finds.sound.counts in
    let number = live_count (kind_at m f) live in
    let held : 0 < typed_to f (finds.hands s).typed = subst (λ (u : Holdings). 0 < typed_to f u.typed) (sym finds.mine) may.in_hand in
    let some : 0 < (kind_at m f).number = omega (arith, counted, number, held) in
    record {
      small = subst (λ y. y < 2 ^ 64) finds.word (finds.sound.spelled.small (Kind f));
      live = known.0;
      some = subst (λ y. 0 < (kind_fields y).number) finds.word some;
      unmarked = subst (λ y. (kind_fields y).unflushed ≡ false) finds.word (live_unmarked n m f finds.sound.spelled live);
      kind = λ t knows. (known_live n s h f w (kind_fields w) finds refl t knows).1;
      apart = subst (λ (u : Holdings). work_on f u.works ≡ None) finds.mine (nobody_has n m finds.hands finds.sound.alone f (live_idle (kind_at m f) live some) s finds.real);
    }

-- ---- frames of the own works, whatever word was found
module _ (n : Machine) (s : ℕ) (h : Holdings) (p : Place) (w : ℕ) (finds : Finds n s h p w) (f : ℕ) where
  -- a frame that is taken out stands there no more
  pub out_of_works : work_on f (without_work f h.works) ≡ None
  out_of_works =
      let once = subst (λ (u : Holdings). works_on f u.works ≤ 1) finds.mine (one_works n finds.words finds.hands finds.sound.alone f s finds.real) in
      first_by-none (λ e. e.frame) f (without_work f h.works) (times_by-without_one (λ e. e.frame) f h.works once)

  works : (e : Work) → work_on f h.works ≡ Some e → Works n finds.words finds.hands s f e
  works e here = works_facts n finds.words finds.hands s f e finds.sound finds.real (subst (λ (u : Holdings). work_on f u.works ≡ Some e) (sym finds.mine) here)

  pub work_frame : (e : Work) → work_on f h.works ≡ Some e → e.frame ≡ f
  work_frame e here = (works e here).frame

  -- it came there before now
  pub work_past : (e : Work) → work_on f h.works ≡ Some e → e.since ≤ length h.steps
  work_past e here =
      let formed = (works e here).formed in
      let past = subst (λ (u : Holdings). e.unmarked ≤ length u.steps) finds.mine formed.past in
      let order = formed.order in
      omega (arith, past, order)

  -- at most all entries of a table are recorded, and of a marked frame none
  pub work_recorded : (e : Work) → work_on f h.works ≡ Some e → (e.recorded ≤ 512) × ((kind_fields e.word).unflushed ≡ true → e.recorded ≡ 0)
  work_recorded e here = ((works e here).formed.recorded, λ marked. (works e here).agrees.marked marked)

  -- its word is a spelling
  pub work_is : (e : Work) → work_on f h.works ≡ Some e → f < n.frames → IsTrue (is_kind (kind_fields e.word))
  unfolding IsSpelling
  work_is e here frame =
      let word = (works e here).word in
      let by = kind_by n e.word (kind_read e.word) refl (subst (λ y. IsTrue (is_kind_in n (kind_read y))) word (finds.sound.spelled.spelled (Kind f) (kind_there (sizes_of n) f frame))) in
      subst (λ y. IsTrue (is_kind y)) (sym (fields_of e.word by.0 by.1)) (kind_write-read e.word by.0 by.1).0

-- and that word is found there
pub work_word : (n : Machine) (s : ℕ) (h : Holdings) (f w : ℕ) (e : Work) → Finds n s h (Kind f) w → work_on f h.works ≡ Some e → w ≡ e.word
work_word n s h f w e finds here = sym finds.word ∙ (works n s h (Kind f) w finds f e here).word

-- its stamp, where it is marked, is not above the clock
pub work_stamp : (n : Machine) (s : ℕ) (h : Holdings) (c f : ℕ) (e : Work) → Finds n s h Clock c → work_on f h.works ≡ Some e → (kind_fields e.word).unflushed ≡ true → (kind_fields e.word).number ≤ c
work_stamp n s h c f e finds here marked =
    let m = finds.words in
    let word = (works n s h Clock c finds f e here).word in
    let unlive = marked_unlive n m f finds.sound.spelled (ap (λ x. (kind_fields x).unflushed) word ∙ marked) in
    let number : kind_stamp (m (Kind f)) ≡ (kind_fields e.word).number = stamp_of (m (Kind f)) (kind_at m f) refl unlive ∙ ap (λ x. (kind_fields x).number) word in
    subst (λ y. (kind_fields e.word).number ≤ y) finds.word (subst (λ y. y ≤ m Clock) number (finds.sound.stamped.kinds f))

-- ---- the owner that the vCPU knows is a domain of the machine
pub known_owner : (n : Machine) (s : ℕ) (h : Holdings) (p : Place) (w : ℕ) → Finds n s h p w → (f owner : ℕ) → f < n.frames → IsTrue (knows_owner (sizes_of n) f owner h) → owner < length n.page_limit
unfolding IsSpelling owner_of
known_owner n s h p w finds f owner frame knows =
    let known = subst (λ (u : Holdings). IsTrue (knows_owner (sizes_of n) f owner u)) (sym finds.mine) knows in
    let owned = (finds.sound.found s finds.real).owners f owner known in
    owner_is_real n (ref_read (finds.words (Refs f))) owner (finds.sound.spelled.spelled (Refs f) (refs_there (sizes_of n) f frame)) owned
