-- Blocks that are tried, in order, as lists of looks.
use Rattle.std.proofs.Common.{◌≡◌, ◌≢◌, ℕ, zero, suc, ◌+◌, ◌-◌, ◌*◌, ◌/◌, ◌%◌, ◌^◌, ◌<◌, ◌≤◌, ◌==◌, ◌&&◌, ◌++◌, Bool, true, false, List, [], ◌∷◌, length, slice_index, Option, Some, None, is_some, inl, inr, refl, sym, ap, ◌∙◌, subst, arith}
use Rattle.std.proofs.Math.Nat.{one-le-pow, zero-div, zero-mod}
use Rattle.std.proofs.lemmas.Nat.{and_mask}
use Rattle.std.proofs.lemmas.Nat.Bits.{ones_shr}
use Rattle.std.specs.Int.RustNames.{bit_and}
use Rattle.xp_words.specs.Machine.{Machine}
use Rattle.xp_words.specs.Places.{map_words, sizes_of}
use Rattle.xp_words.specs.declared.place.Place.TheVariants.{Map, Refs}
use Rattle.xp_words.proofs.Shared.{eq_false as when_ne}
use Rattle.xp_board.specs.Readings.{is_free}
use Rattle.xp_board.specs.declared.step.Act.TheVariants.{Load}
use Rattle.xp_board.specs.declared.step.StepKind.TheVariants as kinds
use Rattle.xp_board.specs.Told.{Post, PortValue}
use Rattle.xp_board.proofs.Sums.{when_eq}
use Rattle.step_maker.specs.Moves.{Moves}
use Rattle.step_maker.proofs.Coming.{came_post}
use Rattle.step_maker.specs.Visits.{Visit, Does, Nothing, Only, Then}
use Rattle.step_maker.proofs.Visiting.{does_as, does_nothing, does_one, does_then}
use Rattle.frame_claims.specs.declared.choosing.Chosen.{Chosen}
use Rattle.frame_claims.specs.Choosing.{FreeWord, Looks}
use Rattle.frame_claims.specs.Found as founds
use Rattle.frame_claims.specs.Found.{AllFree, BlockBy, ChosenBy, FirstOf, FreeAt, FreeBlock, FullBy, HintedBy, InWordBy, RunBy, SawFree, SawFull, SawTaken, ScannedBy, TriedBy, TriedWhere, Upwards, WordBy, are_set, block_of, saw_map, saw_refs}
use Rattle.frame_claims.proofs.Finding.{at_new, at_old, looks_came, one_longer, word_free}
use Rattle.frame_claims.proofs.Listing.{first_had, up_map, up_more, up_none}

-- ---- a block
pub all_none : (v : PortValue) (f : ℕ) (stamps : List ℕ) → stamps ≡ [] → Does v v (λ vs. AllFree f stamps vs)
all_none v f stamps none = subst (λ xs. Does v v (λ vs. AllFree f xs vs)) (sym none) (up_none (FreeAt f []) 0 v)

pub all_more : (v u w : PortValue) (first f s x : ℕ) (xs : List ℕ) → first + length xs ≡ f → FreeWord x s → Moves u w (Refs f) Load kinds.Look None x → Does v u (λ vs. AllFree first xs vs) → Does v w (λ vs. AllFree first (xs ++ s ∷ []) vs)
all_more v u w first f s x xs at word m before =
    let more = xs ++ s ∷ [] in
    let kept : Does v u (λ vs. Upwards (FreeAt first more) 0 (length xs) vs) =
    does_as v u (λ vs. AllFree first xs vs) (λ vs. Upwards (FreeAt first more) 0 (length xs) vs)
    (up_map (FreeAt first xs) (FreeAt first more) 0 (length xs)
    (λ i low us was. subst (λ t. (is_free t ≡ true) × Only (saw_refs (first + i) t) us) (sym (at_old xs s i low)) was)) before in
    let is : x ≡ slice_index more (length xs) = word.is ∙ sym (at_new xs s) in
    let now : Does u w (λ us. (is_free (slice_index more (length xs)) ≡ true) × Only (saw_refs (first + length xs) (slice_index more (length xs))) us) =
    subst (λ t. Does u w (λ us. (is_free t ≡ true) × Only (saw_refs (first + length xs) t) us)) is
    (subst (λ g. Does u w (λ us. (is_free x ≡ true) × Only (saw_refs g x) us)) (sym at)
    (does_as u w (Only (saw_refs f x)) (λ us. (is_free x ≡ true) × Only (saw_refs f x) us) (λ us one. (word_free x s word, one)) (does_one u w (Refs f) Load kinds.Look None x m))) in
    subst (λ k. Does v w (λ vs. Upwards (FreeAt first more) 0 k vs)) (sym (one_longer xs s))
    (up_more (FreeAt first more) 0 v u w (length xs) kept now)

pub tried_none : (v u w : PortValue) (first f size x : ℕ) (xs : List ℕ) → first + length xs ≡ f → f < first + size → is_free x ≡ false → Moves u w (Refs f) Load kinds.Look None x → Does v u (λ vs. AllFree first xs vs) →
    Does v w (λ vs. TriedBy size first None vs)
tried_none v u w first f size x xs at low taken m before =
    does_as v w (Then (Upwards (λ j us. SawFree (first + j) us) 0 (length xs)) (λ us. SawTaken (first + length xs) us)) (λ vs. TriedBy size first None vs) (λ vs t. (length xs, omega (arith, at, low), t))
    (does_then v u w (λ vs. Upwards (λ j us. SawFree (first + j) us) 0 (length xs) vs) (λ us. SawTaken (first + length xs) us)
    (does_as v u (λ vs. AllFree first xs vs) (λ vs. Upwards (λ j us. SawFree (first + j) us) 0 (length xs) vs)
    (up_map (FreeAt first xs) (λ j us. SawFree (first + j) us) 0 (length xs) (λ i l us was. (slice_index xs i, was.0, was.1))) before)
    (subst (λ g. Does u w (λ us. SawTaken g us)) (sym at)
    (does_as u w (Only (saw_refs f x)) (λ us. SawTaken f us) (λ us one. (x, taken, one)) (does_one u w (Refs f) Load kinds.Look None x m))))

-- ---- not tried
pub not_tried : (v : PortValue) (b : Bool) (k f : ℕ) → b ≡ false → Does v v (λ vs. TriedWhere b k f None vs)
not_tried v b k f off = subst (λ c. Does v v (λ vs. TriedWhere c k f None vs)) (sym off) (does_as v v Nothing (λ vs. TriedWhere false k f None vs) (λ vs is. (refl, is)) (does_nothing v))

pub tried : (v w : PortValue) (b : Bool) (k f : ℕ) (o : Option FreeBlock) → b ≡ true → Does v w (λ vs. TriedBy k f o vs) → Does v w (λ vs. TriedWhere b k f o vs)
tried v w b k f o on does = subst (λ c. Does v w (λ vs. TriedWhere c k f o vs)) (sym on) does

-- ---- bits
pub mask_is : (size : ℕ) → size ≤ 64 → (2 ^ 64 - 1) / 2 ^ (64 - size) ≡ 2 ^ size - 1
mask_is size few = ones_shr 64 (64 - size) (omega (arith, few)) ∙ ap (λ k. 2 ^ k - 1) (let e : 64 - (64 - size) ≡ size = omega (arith, few) in e)

pub bits_set : (k at x : ℕ) → k ≤ 64 → bit_and (x / 2 ^ at) ((2 ^ 64 - 1) / 2 ^ (64 - k)) ≡ (2 ^ 64 - 1) / 2 ^ (64 - k) → are_set k at x ≡ true
bits_set k at x few is =
    let masked = subst (λ m. bit_and (x / 2 ^ at) m ≡ m) (mask_is k few) is in
    when_eq (x / 2 ^ at % 2 ^ k) (2 ^ k - 1) (sym (and_mask (x / 2 ^ at) k) ∙ masked)

pub bits_off : (k at x : ℕ) → k ≤ 64 → bit_and (x / 2 ^ at) ((2 ^ 64 - 1) / 2 ^ (64 - k)) ≢ (2 ^ 64 - 1) / 2 ^ (64 - k) → are_set k at x ≡ false
bits_off k at x few off =
    let masked = subst (λ m. bit_and (x / 2 ^ at) m ≢ m) (mask_is k few) off in
    when_ne (x / 2 ^ at % 2 ^ k) (2 ^ k - 1) (λ e. masked (and_mask (x / 2 ^ at) k ∙ e))

-- no step at all, for each number
pub none_each : (P : ℕ → List Visit → Type 0) (n : ℕ) → ((i : ℕ) → P i []) → Upwards P 0 n []
none_each P zero each = founds.Upwards.starts [] refl
none_each P (suc n) each = let e : suc n ≡ n + 1 = omega arith in rw e (founds.Upwards.goes_up n [] [] [] (none_each P n each) (each n) refl)

-- ---- the first of several
pub first_some : (P : ℕ → Option FreeBlock → List Visit → Type 0) (v u w : PortValue) (n i : ℕ) (o : Option Chosen) (ss : List ℕ) → i < n → is_some o ≡ true → Does v u (λ vs. Upwards (λ j us. P j None us) 0 i vs) →
    Does u w (λ vs. P i (block_of o ss) vs) → Does v w (λ vs. FirstOf P n (block_of o ss) vs)
first_some P v u w n i None ss low is before now = absurd (cc)
first_some P v u w n i (Some c) ss low is before now = first_had P v u w n i (record { first = c.first; stamps = ss }) low before now

pub first_next : (P : ℕ → Option FreeBlock → List Visit → Type 0) (v u w : PortValue) (i : ℕ) (o : Option Chosen) (ss : List ℕ) → is_some o ≡ false → Does v u (λ vs. Upwards (λ j us. P j None us) 0 i vs) →
    Does u w (λ vs. P i (block_of o ss) vs) → Does v w (λ vs. Upwards (λ j us. P j None us) 0 (i + 1) vs)
first_next P v u w i None ss is before now = up_more (λ j us. P j None us) 0 v u w i before now
first_next P v u w i (Some c) ss is before now = absurd (cc)

pub first_none : (P : ℕ → Option FreeBlock → List Visit → Type 0) (v w : PortValue) (n i : ℕ) → i ≡ n → Does v w (λ vs. Upwards (λ j us. P j None us) 0 i vs) → Does v w (λ vs. FirstOf P n None vs)
first_none P v w n i all does = subst (λ k. Does v w (λ vs. Upwards (λ j us. P j None us) 0 k vs)) all does

-- ---- words of the map
two_more : (k : ℕ) → 0 < k → 2 ≤ 2 ^ k
two_more zero some = absurd (omega (arith, some))
two_more (suc k) some = let one = one-le-pow k 2 (omega arith) in let e : 2 ^ suc k ≡ 2 * 2 ^ k = grind arith in omega (arith, one, e)

pub on_machine : (v u w : PortValue) (Q : Machine → List Visit → Type 0) → Looks v u → Does u w (λ vs. Q u.post.machine vs) → Does u w (λ vs. Q v.post.machine vs)
on_machine v u w Q looks does = subst (λ (q : Post). Does u w (λ vs. Q q.machine vs)) (came_post v u (looks_came v u looks)) does

not_set : (k at x : ℕ) (b : Bool) → 0 < k → x ≡ 0 → (are_set k at x && b) ≡ false
not_set k at x b some none =
    let big : 2 ≤ 2 ^ k = two_more k some in
    let zero_is : x / 2 ^ at % 2 ^ k ≡ 0 = rw (none, zero-div (2 ^ at)) (zero-mod (2 ^ k)) in
    let off : (x / 2 ^ at % 2 ^ k == 2 ^ k - 1) ≡ false = rw zero_is (when_ne 0 (2 ^ k - 1) (λ e. absurd (omega (arith, e, big)))) in
    rw off refl

pub no_bits : (v : PortValue) (n : Machine) (k word x : ℕ) → 0 < k → x ≡ 0 → Does v v (λ vs. InWordBy n k word x None vs)
no_bits v n k word x some none =
    does_as v v Nothing (λ vs. InWordBy n k word x None vs)
    (λ vs is. subst (λ us. InWordBy n k word x None us) (sym is) (none_each (λ at us. BlockBy n k word x at None us) (64 / k) (λ at. subst (λ b. TriedWhere b k (64 * word + k * at) None []) (sym (not_set k (k * at) x _ some none)) (refl, refl))))
    (does_nothing v)

pub word_by : (u m w : PortValue) (n : Machine) (k word x : ℕ) (o : Option FreeBlock) → Moves u m (Map word) Load kinds.Look None x → Does m w (λ vs. InWordBy n k word x o vs) → Does u w (λ vs. WordBy n k word o vs)
word_by u m w n k word x o look does =
    does_as u w (Then (Only (saw_map word x)) (λ us. InWordBy n k word x o us)) (λ vs. WordBy n k word o vs) (λ vs t. (x, t))
    (does_then u m w (Only (saw_map word x)) (λ us. InWordBy n k word x o us) (does_one u m (Map word) Load kinds.Look None x look) does)

pub not_full : (v u w : PortValue) (first count word x : ℕ) → first ≤ word → word < first + count → x ≢ 2 ^ 64 - 1 → Does v u (λ vs. Upwards SawFull first word vs) → Moves u w (Map word) Load kinds.Look None x → Does v w (λ vs. FullBy first count false vs)
not_full v u w first count word x low high off before look =
    does_as v w (Then (Upwards SawFull first word) (λ us. (y : ℕ) × (y ≢ 2 ^ 64 - 1) × Only (saw_map word y) us)) (λ vs. FullBy first count false vs) (λ vs t. (word, low, high, t))
    (does_then v u w (λ vs. Upwards SawFull first word vs) (λ us. (y : ℕ) × (y ≢ 2 ^ 64 - 1) × Only (saw_map word y) us) before
    (does_as u w (Only (saw_map word x)) (λ us. (y : ℕ) × (y ≢ 2 ^ 64 - 1) × Only (saw_map word y) us) (λ us one. (x, off, one)) (does_one u w (Map word) Load kinds.Look None x look)))

pub one_full : (v u w : PortValue) (first word x : ℕ) → x ≡ 2 ^ 64 - 1 → Does v u (λ vs. Upwards SawFull first word vs) → Moves u w (Map word) Load kinds.Look None x → Does v w (λ vs. Upwards SawFull first (word + 1) vs)
one_full v u w first word x is before look =
    up_more SawFull first v u w word before (subst (λ y. Does u w (Only (saw_map word y))) is (does_one u w (Map word) Load kinds.Look None x look))

-- ---- a block of several words
pub run_by : (v u w : PortValue) (words block : ℕ) (full : Bool) (o : Option FreeBlock) → Does v u (λ vs. FullBy (block * words) words full vs) → Does u w (λ vs. TriedWhere full (64 * words) (block * (64 * words)) o vs) →
    Does v w (λ vs. RunBy words block o vs)
run_by v u w words block full o looks tries =
    does_as v w (Then (FullBy (block * words) words full) (TriedWhere full (64 * words) (block * (64 * words)) o)) (λ vs. RunBy words block o vs) (λ vs t. (full, t))
    (does_then v u w (λ vs. FullBy (block * words) words full vs) (λ vs. TriedWhere full (64 * words) (block * (64 * words)) o vs) looks tries)

-- ---- the choice
pub hinted_words : (v w : PortValue) (n : Machine) (k : ℕ) (o : Option FreeBlock) → k ≤ 64 → Does v w (λ vs. FirstOf (WordBy n k) (map_words (sizes_of n)) o vs) → Does v w (λ vs. HintedBy n k o vs)
hinted_words v w n k o few does = does_as v w (λ vs. FirstOf (WordBy n k) (map_words (sizes_of n)) o vs) (λ vs. HintedBy n k o vs) (λ vs t. inl (few, t)) does

pub hinted_runs : (v w : PortValue) (n : Machine) (k : ℕ) (o : Option FreeBlock) → 64 < k → 64 * (k / 64) ≡ k → Does v w (λ vs. FirstOf (RunBy (k / 64)) (n.frames / (64 * (k / 64))) o vs) → Does v w (λ vs. HintedBy n k o vs)
hinted_runs v w n k o many whole does =
    does_as v w (λ vs. FirstOf (RunBy (k / 64)) (n.frames / k) o vs) (λ vs. HintedBy n k o vs) (λ vs t. inr (many, t))
    (subst (λ j. Does v w (λ vs. FirstOf (RunBy (k / 64)) (n.frames / j) o vs)) whole does)

pub chosen_hinted : (v w : PortValue) (n : Machine) (k : ℕ) (b : FreeBlock) → Does v w (λ vs. HintedBy n k (Some b) vs) → Does v w (λ vs. ChosenBy n k (Some b) vs)
chosen_hinted v w n k b does = does_as v w (λ vs. HintedBy n k (Some b) vs) (λ vs. ChosenBy n k (Some b) vs) (λ vs t. inl t) does

as_chosen : (n : Machine) (k : ℕ) (o : Option FreeBlock) (vs : List Visit) → Then (HintedBy n k None) (ScannedBy n k o) vs → ChosenBy n k o vs
as_chosen n k None vs t = t
as_chosen n k (Some b) vs t = inr t

pub chosen_scanned : (v u w : PortValue) (n : Machine) (k : ℕ) (o : Option FreeBlock) → Does v u (λ vs. HintedBy n k None vs) → Does u w (λ vs. ScannedBy n k o vs) → Does v w (λ vs. ChosenBy n k o vs)
chosen_scanned v u w n k o hinted scanned =
    does_as v w (Then (HintedBy n k None) (ScannedBy n k o)) (λ vs. ChosenBy n k o vs) (as_chosen n k o) (does_then v u w (λ vs. HintedBy n k None vs) (λ vs. ScannedBy n k o vs) hinted scanned)
