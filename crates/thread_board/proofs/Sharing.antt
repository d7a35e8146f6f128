-- Steps, splits and joins keep the shared rule.
use Rattle.std.proofs.Common.{◌≡◌, ◌≢◌, ℕ, zero, suc, ◌+◌, ◌<◌, List, [], ◌∷◌, length, set, refl, sym, ap, ◌∙◌, subst, ⊎_elim, arith, length-set, None, Bool, inl, inr}
use Rattle.std.specs.Prelude.{slice_index, slice_set, IfSome}
use mathlib.Core.Option.{some, some-injective, some-ne-none}
use lib.ListN.{get_elem?}
use Rattle.atomic_table.specs.Table.{State as Table, Me, Allows, keeps}
use Rattle.atomic_table.specs.Seated.{TableId}
use Rattle.atomic_table.proofs.Lists.{at_set, set_here, set_else}
use Rattle.xp_words.specs.Machine.{Machine}
use Rattle.xp_words.specs.Places.{Sizes, sizes_of, size, memory, place_at, run_of}
use Rattle.xp_board.specs.declared.step.Step.{Step}
use Rattle.xp_board.specs.declared.holdings.Holdings.{Holdings}
use Rattle.xp_board.specs.Acts.{left_by}
use Rattle.xp_board.specs.After.{after}
use Rattle.xp_board.specs.Legal.{Legal}
use Rattle.xp_board.specs.Runs as runs
use Rattle.xp_board.specs.Sound.{SoundState, SoundWords, hand_of}
use Rattle.xp_board.proofs.Numbers.{place_inside, word_there}
use Rattle.shared_board.proofs.Opened.{start_sound}
use Rattle.sound_rule.proofs.OwnRun.{steps_after}
use Rattle.shared_board.proofs.Stepping.{RunsSound, RunWordStays, own_word}
use Rattle.own_cache.specs.Translating.{Translating, translating, translated}
use Rattle.own_cache.proofs.Projecting.{translating_after}
use Rattle.xp_board.specs.Told.{Finds, stepped, Goes, Saw, cached_item, run_or}
use Rattle.xp_board.specs.declared.step.Item.{Item}
use Rattle.xp_board.specs.Spelling.{IsSpelling}
use Rattle.xp_board.specs.Lists.{EachOf, Member}
use Rattle.own_cache.specs.Frames.{LeadInside}
use Rattle.own_cache.proofs.Frames.{after_leads, cached_leads}
use Rattle.xp_board.proofs.Going.{goes_step, saw_step}
use Rattle.thread_board.specs.Values.{BoardValue, PassValue, IsPassOf, PassSteps}
use Rattle.thread_board.specs.declared.rule.Opening.{Opening}
use Rattle.thread_board.specs.declared.rule.SharedView.{SharedView}
use Rattle.thread_board.specs.Sharing.{one, deed_of, Fits, Kept, DidShare}
use Rattle.thread_board.specs.Ports.{pass_port}
use Rattle.thread_board.specs.Deeds.{Deed}

pub at_inside : {A : Type 0} (l : List A) (i : ℕ) (a : A) → get_elem? l i ≡ some a → i < length l
at_inside [] i a e = absurd (some-ne-none a (sym e))
at_inside (x ∷ xs) zero a e = omega arith
at_inside (x ∷ xs) (suc i) a e = let r = at_inside xs i a e in omega arith

-- views after one of them changes
pub fits_set : (owner : ℕ → ℕ) (hands : List Holdings) (views : List SharedView) (id : ℕ) (w : SharedView)
    → ((j : ℕ) (u : SharedView) → j ≢ id → get_elem? views j ≡ some u → Fits owner hands j u) → Fits owner hands id w
    → (j : ℕ) (u : SharedView) → get_elem? (set views id w) j ≡ some u → Fits owner hands j u
fits_set owner hands views id w others mine j u e =
    ⊎_elim
    (λ (x : (j ≡ id) × (w ≡ u)). subst (λ (y : ℕ × SharedView). Fits owner hands y.0 y.1) (λ k. (sym x.0 k, x.1 k)) mine)
    (λ (x : (j ≢ id) × (get_elem? views j ≡ some u)). others j u x.0 x.1)
    (at_set views id j w u e)

pub get_is : (l : List Holdings) (i : ℕ) (h : Holdings) → get_elem? l i ≡ some h → hand_of l i ≡ h
get_is [] i h e = absurd (some-ne-none h (sym e))
get_is (x ∷ xs) zero h e = some-injective x h e
get_is (x ∷ xs) (suc i) h e = get_is xs i h e

-- the state of now is sound
pub kept_sound : RunsSound → (o : Opening) (t : Table (Unit {0}) SharedView) → SoundWords o.layout o.words → (was : Kept o t) → SoundState o.layout t.words was.hands
kept_sound law o t begun was =
    law o.layout (runs.start o.layout o.words) (record { words = t.words; hands = was.hands }) was.log was.run (start_sound o.layout o.words begun)

pub fits_one : (owner : ℕ → ℕ) (hands : List Holdings) (id i : ℕ) (k : Holdings) → owner i ≡ id → get_elem? hands i ≡ some k → Fits owner hands id (one i k)
fits_one owner hands id i k mine at zero h e = let zero_more : i + 0 ≡ i = omega arith in rw zero_more (mine, at ∙ e)
fits_one owner hands id i k mine at (suc n) h e = absurd (some-ne-none h (sym e))

-- the state after the step, as the table and the run name it
next_state : (n : Machine) (words : List ℕ) (hands : List Holdings) (i found : ℕ) (h : Holdings) (x : Step) → hand_of hands i ≡ h → memory (sizes_of n) words (place_at (sizes_of n) x.place) ≡ found →
    (let a : runs.State = record { words = words; hands = hands } in
    let b : runs.State = record { words = slice_set words x.place (left_by x.act found); hands = slice_set hands i (after n i h x found) } in b ≡ runs.next n a i x)
next_state n words hands i found h x hand word =
    λ k. record { words = slice_set words x.place (left_by x.act (sym word k)); hands = slice_set hands i (after n i (sym hand k) x (sym word k)) }

-- the own run word, as it was found or left last, or else as the vCPU opened
own_found : RunsSound → RunWordStays → (o : Opening) (i found : ℕ) (h : Holdings) (x : Step) (t : Table (Unit {0}) SharedView) (was : Kept o t) → SoundWords o.layout o.words → i < (sizes_of o.layout).vcpus → hand_of was.hands i ≡ h →
    memory (sizes_of o.layout) t.words (runs.place_of o.layout x) ≡ found → runs.place_of o.layout x ≡ run_of i → found ≡ run_or (memory (sizes_of o.layout) o.words (run_of i)) h.run
own_found law stays o i found h x t was begun lt hand word at =
    let sound = kept_sound law o t begun was in
    let now : ℕ = memory (sizes_of o.layout) t.words (run_of i) in
    let opened : ℕ = memory (sizes_of o.layout) o.words (run_of i) in
    let is : found ≡ now = sym word ∙ ap (memory (sizes_of o.layout) t.words) at in
    let unseen : (hand_of was.hands i).run ≡ None → now ≡ opened =
    λ none. (stays o.layout (runs.start o.layout o.words) (record { words = t.words; hands = was.hands }) was.log i (start_sound o.layout o.words begun) lt was.run none).1 in
    subst (λ (u : Holdings). found ≡ run_or opened u.run) hand
    (is ∙ own_word opened now (hand_of was.hands i).run refl unseen (sound.sound.found i lt).own.run)

-- whatever the table is, the step of vCPU i keeps the rule
pub shares : RunsSound → RunWordStays → (o : Opening) (slots id i : ℕ) (h : Holdings) (mine : List (ℕ × Unit {0})) (x : Step) → SoundWords o.layout o.words → i < (sizes_of o.layout).vcpus → Legal o.layout i h x →
    Allows (Kept o) slots id (one i h, mine) x.place (left_by x.act) (DidShare (deed_of o i x) (one i h, mine))
shares law stays o slots id i h mine x begun lt legal t was long at fits =
    let my = was.each id (one i h) at 0 h refl in
    let more : i + 0 ≡ i = omega arith in
    let own : was.owner i ≡ id = subst (λ n. was.owner n ≡ id) more my.0 in
    let there : get_elem? was.hands i ≡ some h = subst (λ n. get_elem? was.hands n ≡ some h) more my.1 in
    let hand : hand_of was.hands i ≡ h = get_is was.hands i h there in
    let found : ℕ = slice_index t.words x.place in
    let word : memory (sizes_of o.layout) t.words (place_at (sizes_of o.layout) x.place) ≡ found = word_there (sizes_of o.layout) t.words x.place legal.place in
    let k : Holdings = after o.layout i h x found in
    let now : List Holdings = set was.hands i k in
    let sound = kept_sound law o t begun was in (
      one i k,
      keeps,
      tt,
      record {
        log = (i, x) ∷ was.log;
        hands = now;
        owner = was.owner;
        run = (
          record { words = t.words; hands = was.hands },
          was.run,
          record { vcpu = lt; legal = subst (λ (u : Holdings). Legal o.layout i u x) (sym hand) legal; next_is = next_state o.layout t.words was.hands i found h x hand word },
        );
        many = length-set was.hands i k ∙ was.many;
        each = fits_set was.owner now t.views id (one i k)
            (λ j u apart e n g eg.
            let f = was.each j u e n g eg in
            let other : (u.from + n) ≢ i = (λ (same : u.from + n ≡ i). apart (sym f.0 ∙ ap was.owner same ∙ own)) in
            (f.0, set_else was.hands i (u.from + n) k other ∙ f.1))
            (fits_one was.owner now id i k own (set_here was.hands i k (at_inside was.hands i h there)));
      },
      record {
        finds = record { words = memory (sizes_of o.layout) t.words; hands = hand_of was.hands; real = lt; sound = sound.sound; mine = hand; word = word };
        own = own_found law stays o i found h x t was begun lt hand word;
        applied = refl;
        slots = refl;
      },
    )

-- the same, as a call of the table asks it
pub asks_share : RunsSound → RunWordStays → (o : Opening) (y z : TableId) (id i : ℕ) (h : Holdings) (me : Me (Unit {0}) SharedView) (d : Deed) (x : Step) (f : ℕ → ℕ) → y ≡ z → d ≡ deed_of o i x → z.words ≡ size (sizes_of o.layout) →
    SoundWords o.layout o.words → i < (sizes_of o.layout).vcpus → me.0 ≡ one i h → Legal o.layout i h x → left_by x.act ≡ f →
    (y ≡ z) × (x.place < z.words) × Allows (Kept o) z.slots id me x.place f (DidShare d me)
asks_share law stays o y z id i h me d x f same does words begun lt hand legal act =
    let Q : Me (Unit {0}) SharedView → Type 0 = λ u. Allows (Kept o) z.slots id u x.place (left_by x.act) (DidShare (deed_of o i x) u) in
    let is : (one i h, me.1) ≡ me = λ k. (sym hand k, me.1) in (
      same,
      rw words (place_inside (sizes_of o.layout) x.place legal.place),
      rw (does, ← act) (subst Q is (shares law stays o z.slots id i h me.1 x begun lt legal)),
    )

-- ---- passes and ports
pub some_words : (z : Sizes) → 0 < size z
unfolding size
some_words z = omega arith

value_is : (b : BoardValue) (p q : PassValue) (l found : ℕ) (x : Step) → PassSteps b p x found q → pass_port b q l ≡ stepped (pass_port b p l) x found
value_is b p q l found x st = ap (λ (u : PassValue). pass_port b u l) st.value

pub shared_goes : (b : BoardValue) (p q : PassValue) (l found : ℕ) (x : Step) → PassSteps b p x found q → Legal b.machine p.vcpu p.holdings x → Goes (pass_port b p l) (pass_port b q l)
shared_goes b p q l found x st legal = goes_step (pass_port b p l) (pass_port b q l) x found legal tt (value_is b p q l found x st)

pub shared_saw : (b : BoardValue) (p q : PassValue) (l found : ℕ) (x : Step) → PassSteps b p x found q → Legal b.machine p.vcpu p.holdings x → Saw (pass_port b p l) (pass_port b q l) (runs.place_of b.machine x) found
shared_saw b p q l found x st legal = saw_step (pass_port b p l) (pass_port b q l) x found legal tt (value_is b p q l found x st)

-- ---- what a board and a pass have inside
-- what is legal of the values that contracts see, of their fields
pub legal_inside : (b c : BoardValue) (p q : PassValue) (x : Step) → b ≡ c → p ≡ q → Legal c.machine q.vcpu q.holdings x → Legal b.machine p.vcpu p.holdings x
legal_inside b c p q x board pass legal = subst (λ (y : BoardValue × PassValue). Legal y.0.machine y.1.vcpu y.1.holdings x) (λ k. (sym board k, sym pass k)) legal

pub pass_inside : (b c : BoardValue) (p q : PassValue) → b ≡ c → p ≡ q → IsPassOf c q → IsPassOf b p
pass_inside b c p q board pass is = subst (λ (y : BoardValue × PassValue). IsPassOf y.0 y.1) (λ k. (sym board k, sym pass k)) is

pub kept_on : (n : Machine) (s found : ℕ) (x : Step) (h k : Holdings) (t u : Translating) → t ≡ translating h → u ≡ translated n x found t → k ≡ after n s h x found → u ≡ translating k
kept_on n s found x h k t u kept is to = is ∙ ap (λ (y : Translating). translated n x found y) kept ∙ sym (translating_after n s h x found) ∙ ap translating (sym to)

-- a word found is a spelling
pub found_spelled : (n : Machine) (s : ℕ) (h : Holdings) (x : Step) (found : ℕ) → Legal n s h x → Finds n s h (runs.place_of n x) found → IsSpelling n (runs.place_of n x) found
found_spelled n s h x found legal f = subst (λ w. IsSpelling n (runs.place_of n x) w) f.word (f.sound.spelled.spelled (runs.place_of n x) legal.place)

-- ---- translations that lead to frames of the machine
each_led : (frames : ℕ) (xs : List Item) → ((x : Item) → Member x xs → x.frame < frames) → LeadInside frames xs
unfolding EachOf Member
each_led frames [] h = tt
each_led frames (x ∷ xs) h = (h x (inl refl), each_led frames xs (λ y m. h y (inr m)))

led_each : (frames : ℕ) (xs : List Item) → LeadInside frames xs → (x : Item) → Member x xs → x.frame < frames
unfolding EachOf Member
led_each frames [] h x m = absurd m
led_each frames (y ∷ ys) h x (inl is) = subst (λ (u : Item). u.frame < frames) is h.0
led_each frames (y ∷ ys) h x (inr m) = led_each frames ys h.1 x m

pub pass_cached : (frames : ℕ) (user : Bool) (page : ℕ) (xs : List Item) → ((x : Item) → Member x xs → x.frame < frames) → IfSome (cached_item user page xs) (λ x. x.frame < frames)
pass_cached frames user page xs h = cached_leads frames user page xs (each_led frames xs h)

-- ---- a step of a pass
pub steps_on : (b : BoardValue) (p q : PassValue) (x : Step) (found : ℕ) → IsPassOf b p → Finds b.machine p.vcpu p.holdings (runs.place_of b.machine x) found →
    (runs.place_of b.machine x ≡ run_of p.vcpu → found ≡ run_or (memory (sizes_of b.machine) b.opening (run_of p.vcpu)) p.holdings.run) →
    q ≡ record { table = p.table; vcpu = p.vcpu; holdings = after b.machine p.vcpu p.holdings x found } → PassSteps b p x found q
steps_on b p q x found is finds own to =
    record {
      finds = finds;
      own = own;
      listed = ap (λ (u : PassValue). u.holdings.steps) to ∙ steps_after b.machine p.vcpu p.holdings x found;
      value = to;
      pass = subst (IsPassOf b) (sym to) (record {
        table = is.table;
        vcpu = is.vcpu;
        inside = led_each b.machine.frames _ (after_leads b.machine p.vcpu p.holdings x found (each_led b.machine.frames p.holdings.cache is.inside));
      });
    }
