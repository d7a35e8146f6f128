-- Calls that only look at life words and privileges: what the list of their visits shows.
use Rattle.std.proofs.Common.{◌≡◌, ◌⊎◌, ℕ, ◌≤◌, Bool, true, false, List, [], ◌∷◌, ◌++◌, length, None, IsTrue, refl, sym, ap, ◌∙◌, subst, inl, inr, arith}
use Rattle.xp_words.specs.Machine.{Machine}
use Rattle.xp_words.specs.declared.place.Place.{Place}
use Rattle.xp_words.specs.declared.place.Place.TheVariants.{Life, Priv}
use Rattle.xp_words.specs.Places.{sizes_of}
use Rattle.xp_board.specs.declared.step.Act.{Act}
use Rattle.xp_board.specs.declared.step.Act.TheVariants.{Load}
use Rattle.xp_board.specs.declared.holdings.Holdings.{Holdings}
use Rattle.xp_board.specs.Acts.{left_by}
use Rattle.xp_board.specs.Lists.{EachOf}
use Rattle.xp_board.specs.Steps.{some_since}
use Rattle.xp_board.specs.Told.{Post, PortValue, is_telling, told_word}
use Rattle.step_maker.specs.Moves.{Came, Met, Moment, Moves, Ran}
use Rattle.step_maker.specs.Plain.{Leaves}
use Rattle.step_maker.proofs.Coming.{came_self, moves_came, ran_post}
use Rattle.step_maker.proofs.Noting.{moves_keeps, moves_since, moves_steps}
use Rattle.step_maker.proofs.Telling.{load_tells, ran_telling, told_there}
use Rattle.step_maker.specs.Answers.{Serves, deeds}
use Rattle.step_maker.specs.Asked.{Request}
use Rattle.step_maker.specs.Finding.{Finding, FoundAt}
use Rattle.step_maker.specs.Reasons.{HasReason}
use Rattle.step_maker.specs.Visits.{Visit, Does, visits}
use Rattle.step_maker.proofs.Changing.{found_before}

-- ---- visits
abbrev pub is_word : Place → Bool
is_word (Life d) = true
is_word (Priv d) = true
is_word _ = false

-- a load of a life word or of privileges
pub record IsLook (x : Visit) : Type 0 where
  pub word : IsTrue (is_word x.place)
  pub act : x.act ≡ Load
  pub mark : x.mark ≡ None

-- one of them found that word there
abbrev pub Saw : Place → ℕ → List Visit → Type 0
Saw p word [] = ⊥
Saw p word (x ∷ xs) = ((x.place ≡ p) × (x.found ≡ word)) ⊎ Saw p word xs

pub saw_before : (p : Place) (word : ℕ) (xs ys : List Visit) → Saw p word xs → Saw p word (ys ++ xs)
saw_before p word xs [] a = a
saw_before p word xs (y ∷ ys) a = inr (saw_before p word xs ys a)

pub saw_after : (p : Place) (word : ℕ) (xs ys : List Visit) → Saw p word ys → Saw p word (ys ++ xs)
saw_after p word xs [] a = absurd a
saw_after p word xs (y ∷ ys) (inl a) = inl a
saw_after p word xs (y ∷ ys) (inr a) = inr (saw_after p word xs ys a)

-- ---- no guest sees them, and any request has a reason for them

unseen : (ms : List Moment) → EachOf IsLook (visits ms) → deeds ms ≡ []
unfolding EachOf
unseen [] a = refl
unseen (m ∷ ms) a = rw (unseen ms a.1, a.0.mark, a.0.act) refl

look_reason : (n : Machine) (s : ℕ) (r : Request) (F : Finding) (p : Place) (a : Act) (x : ℕ) (h : Holdings) → IsTrue (is_word p) → a ≡ Load → HasReason n s r F p a x h
look_reason n s r F (Life d) a x h word act = rw act tt
look_reason n s r F (Priv d) a x h word act = rw act tt
look_reason n s r F _ a x h word act = absurd cc

reasons : (n : Machine) (s : ℕ) (r : Request) (F : Finding) (ms : List Moment) → EachOf IsLook (visits ms) → EachOf (λ (m : Moment). HasReason n s r F m.place m.act m.found m.hand) ms
unfolding EachOf
reasons n s r F [] a = tt
reasons n s r F (m ∷ ms) a = (look_reason n s r F m.place m.act m.found m.hand a.0.word a.0.act, reasons n s r F ms a.1)

pub looks_serve : (v w : PortValue) (r : Request) → Does v w (EachOf IsLook) → Serves v w r []
unfolding Serves Does
looks_serve v w r a = (a.0, record { ran = a.1; deeds_are = unseen a.0 a.2; reasons = reasons v.post.machine v.post.vcpu r (Met v w) a.0 a.2 })

-- ---- what one of them found is found
found_in : (v w : PortValue) (p : Place) (word : ℕ) (ms : List Moment) → Ran v ms w → Saw p word (visits ms) → FoundAt (Met v w) p word
unfolding Came
found_in v w p word [] ran a = absurd a
found_in v w p word (m ∷ ms) ran (inl a) =
    record { moment = m; was = record { from = ran.0; to = w; before = (ms, ran.1); moved = ran.2; after = came_self w }; place = a.0; word = a.1 }
found_in v w p word (m ∷ ms) ran (inr a) =
    found_before v ran.0 w p word (moves_came ran.0 w m.place m.act m.kind m.mark m.found ran.2.moves) (found_in v ran.0 p word ms ran.1 a)

-- ---- on a board that tells all words
leaves_in : (v w : PortValue) (ms : List Moment) → Ran v ms w → EachOf IsLook (visits ms) → is_telling v ≡ true → Leaves w (told_word v)
unfolding EachOf
leaves_in v w [] ran looks telling q = ap (λ (y : PortValue). told_word y q) ran
leaves_in v w (m ∷ ms) ran looks telling q =
    let u = ran.0 in
    let made : Moves u w m.place Load m.kind m.mark m.found = subst (λ a. Moves u w m.place a m.kind m.mark m.found) looks.0.act ran.2.moves in
    load_tells u w m.place m.kind m.mark m.found made (ran_telling v u ms ran.1 ∙ telling) q ∙ leaves_in v u ms ran.1 looks.1 telling q

told_in : (v w : PortValue) (p : Place) (word : ℕ) (ms : List Moment) → Ran v ms w → EachOf IsLook (visits ms) → is_telling v ≡ true → Saw p word (visits ms) → told_word v p ≡ word
unfolding EachOf
told_in v w p word [] ran looks telling a = absurd a
told_in v w p word (m ∷ ms) ran looks telling (inl a) =
    let u = ran.0 in
    sym (leaves_in v u ms ran.1 looks.1 telling p) ∙ ap (told_word u) (sym a.0) ∙ told_there u w m.place m.act m.kind m.mark m.found ran.2.moves (ran_telling v u ms ran.1 ∙ telling) ∙ a.1
told_in v w p word (m ∷ ms) ran looks telling (inr a) = told_in v ran.0 p word ms ran.1 looks.1 telling a

pub looks_leave : (v w : PortValue) → Does v w (EachOf IsLook) → is_telling v ≡ true → Leaves w (told_word v)
unfolding Does
looks_leave v w a telling = leaves_in v w a.0 a.1 a.2 telling

-- ---- what one of them found, it found in this turn
grown : (v w : PortValue) (k : ℕ) (ms : List Moment) → Ran v ms w → k ≤ length v.holdings.steps → k ≤ length w.holdings.steps
grown v w k [] ran low = subst (λ (y : PortValue). k ≤ length y.holdings.steps) (sym ran) low
grown v w k (m ∷ ms) ran low =
    let before = grown v ran.0 k ms ran.1 low in
    let more = ap length (moves_steps ran.0 w m.place m.act m.kind m.mark m.found ran.2.moves) in
    omega (arith, before, more)

-- the turn began before now
turned : (v w : PortValue) (m : Moment) (ms : List Moment) → Ran v (m ∷ ms) w → v.holdings.turn ≤ length v.holdings.steps
turned v w m [] ran =
    let finds = ran.2.moves.finds in
    subst (λ (y : PortValue). y.holdings.turn ≤ length y.holdings.steps) ran.1
    (subst (λ (h : Holdings). h.turn ≤ length h.steps) finds.mine (finds.sound.formed ran.0.post.vcpu finds.real).turn)
turned v w m (x ∷ xs) ran = turned v ran.0 x xs ran.1

module _ (p : Place) (word : ℕ) (test : ℕ → Bool) (passes : test word ≡ true) where
  left_passes : (a : Act) (x : ℕ) → a ≡ Load → x ≡ word → test (left_by a x) ≡ true
  unfolding left_by
  left_passes a x act is = rw (act, is) passes

  since_in : (v w : PortValue) (k : ℕ) (ms : List Moment) → Ran v ms w → EachOf IsLook (visits ms) → k ≤ length v.holdings.steps → Saw p word (visits ms) → IsTrue (some_since (sizes_of v.post.machine) k p test w.holdings.steps)
  unfolding EachOf
  since_in v w k [] ran looks low a = absurd a
  since_in v w k (m ∷ ms) ran looks low (inl a) =
      let u = ran.0 in
      subst (λ q. IsTrue (some_since (sizes_of v.post.machine) k q test w.holdings.steps)) a.0
      (subst (λ (o : Post). IsTrue (some_since (sizes_of o.machine) k m.place test w.holdings.steps)) (ran_post v u ms ran.1)
      (moves_since u w m.place m.act m.kind m.mark m.found ran.2.moves k test (grown v u k ms ran.1 low) (left_passes m.act m.found looks.0.act a.1)))
  since_in v w k (m ∷ ms) ran looks low (inr a) =
      moves_keeps ran.0 w m.place m.act m.kind m.mark m.found ran.2.moves _ (since_in v ran.0 k ms ran.1 looks.1 low a)

  this_turn : (v w : PortValue) (ms : List Moment) → Ran v ms w → EachOf IsLook (visits ms) → Saw p word (visits ms) → IsTrue (some_since (sizes_of v.post.machine) v.holdings.turn p test w.holdings.steps)
  this_turn v w [] ran looks a = absurd a
  this_turn v w (m ∷ ms) ran looks a = since_in v w v.holdings.turn (m ∷ ms) ran looks (turned v w m ms ran) a

-- ---- all that a list of looks shows
pub record Shows (v w : PortValue) (vs : List Visit) : Type 0 where
  pub found : (p : Place) (word : ℕ) → Saw p word vs → FoundAt (Met v w) p word
  pub told : (p : Place) (word : ℕ) → is_telling v ≡ true → Saw p word vs → told_word v p ≡ word
  pub since : (p : Place) (word : ℕ) (test : ℕ → Bool) → test word ≡ true → Saw p word vs → IsTrue (some_since (sizes_of v.post.machine) v.holdings.turn p test w.holdings.steps)

pub shown : (v w : PortValue) (P : List Visit → Type 0) → ((vs : List Visit) → P vs → EachOf IsLook vs) → Does v w P → (vs : List Visit) × P vs × Shows v w vs
unfolding Does
shown v w P looks a = (
  visits a.0,
  a.2,
  record {
    found = λ p word saw. found_in v w p word a.0 a.1 saw;
    told = λ p word telling saw. told_in v w p word a.0 a.1 (looks (visits a.0) a.2) telling saw;
    since = λ p word test passes saw. this_turn p word test passes v w a.0 a.1 (looks (visits a.0) a.2) saw;
  },
)
