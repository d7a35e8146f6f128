-- Steps on a board that tells all words, and what they leave.
use Rattle.std.proofs.Common.{◌≡◌, ◌≢◌, ℕ, ◌/◌, ◌%◌, ◌^◌, ◌<◌, ◌≤◌, ◌==◌, nat_le, if◌then◌else◌, Bool, true, false, Option, Some, None, Ok, Err, refl, sym, ap, ◌∙◌, arith}
use Rattle.std.proofs.lemmas.Bool.Decides.{nat_tests}
use Rattle.xp_words.specs.declared.place.Place.TheVariants.{Clock, Pages, Refs, Map}
use Rattle.xp_words.specs.RefWords.{ref_read, ref_write}
use Rattle.xp_words.specs.declared.refs.RefWord.{RefWord}
use Rattle.xp_words.specs.declared.refs.RefWord.TheVariants.{Free, Owned, Dying}
use Rattle.xp_words.specs.declared.reply.Refusal.{Refusal}
use Rattle.xp_words.specs.declared.reply.Refusal.TheVariants.{NoFrame, WrongOwner, CountFull}
use Rattle.xp_words.specs.declared.reply.Stop.TheVariants.{Refused}
use Rattle.xp_words.proofs.Shared.{lt_true as inside, eq_false as when_ne}
use Rattle.xp_board.specs.declared.step.Act.TheVariants.{Load, Cas, Store, Add}
use Rattle.xp_board.specs.declared.step.StepKind.TheVariants as kinds
use Rattle.xp_board.specs.Acts.{left_by}
use Rattle.xp_board.specs.HintSteps.{map_bit}
use Rattle.xp_board.specs.Readings.{ref_count, owner_of}
use Rattle.xp_board.specs.RefSteps.{one_down, owner_number}
use Rattle.xp_board.specs.Steps.{is_same}
use Rattle.xp_board.specs.Told.{PortValue, is_telling, told_word}
use Rattle.xp_board.proofs.Sums.{when_eq}
use Rattle.step_maker.specs.Moves.{Moves}
use Rattle.step_maker.specs.Plain.{Words, change, Leaves}
use Rattle.step_maker.proofs.Telling.{moves_telling, told_there, leaves, leaves_then, load_tells}
use Rattle.step_maker.specs.Licences.{IsOwnedBy, IsFull}
use Rattle.frame_words.specs.declared.rows.Open.{Open}
use Rattle.frame_words.specs.Freeing.{Frees}
use Rattle.frame_words.specs.Plain.{refer_by, one_more, lowered, set_free, put, stamp_now, TwinGet}
use Rattle.frame_words.specs.Refs.{open_word, raised_word, RefusesWord}
use Rattle.frame_words.proofs.Putting.{clock_low}

-- ---- a reference is taken

pub full : (a b : ℕ) → a ≤ b → nat_le a b ≡ true
full a b h = grind (arith, nat_tests)

pub room : (a b : ℕ) → b < a → nat_le a b ≡ false
room a b h = grind (arith, nat_tests)

wrong_owner : (limit owner f w : ℕ) (o : Option RefWord) → (IsOwnedBy owner o → ⊥) → refer_by limit owner f w o ≡ Some (WrongOwner f w)
wrong_owner limit owner f w None off = refl
wrong_owner limit owner f w (Some (Free stamp)) off = refl
wrong_owner limit owner f w (Some (Dying d)) off = refl
wrong_owner limit owner f w (Some (Owned d allocated count)) off = rw (when_ne d owner off) refl

count_full : (limit owner f w : ℕ) (o : Option RefWord) → IsFull owner limit o → refer_by limit owner f w o ≡ Some (CountFull f w)
count_full limit owner f w None is = absurd is
count_full limit owner f w (Some (Free stamp)) is = absurd is
count_full limit owner f w (Some (Dying d)) is = absurd is
count_full limit owner f w (Some (Owned d allocated count)) is = rw (when_eq d owner is.0, full limit count is.1) refl

pub refused_by : (limit owner f w : ℕ) (x : Refusal) → RefusesWord f owner limit w x → refer_by limit owner f w (ref_read w) ≡ Some x
refused_by limit owner f w (WrongOwner g found) (is, at, why) = rw (is, at) (wrong_owner limit owner f w (ref_read w) why)
refused_by limit owner f w (CountFull g found) (is, at, why) = rw (is, at) (count_full limit owner f w (ref_read w) why)
refused_by limit owner f w _ why = absurd why

module _ (v u : PortValue) (f owner word : ℕ) (look : Moves v u (Refs f) Load kinds.Look None word) (real : f < v.post.machine.frames) where
  pub twin_refused : (x : Refusal) → RefusesWord f owner v.post.machine.limit word x → TwinGet {A = ℕ} v u f owner (Err (Refused x))
  twin_refused x why telling =
      let at : told_word v (Refs f) ≡ word = told_there v u (Refs f) Load kinds.Look None word look telling in (
        ap (λ b. if b then refer_by v.post.machine.limit owner f (told_word v (Refs f)) (ref_read (told_word v (Refs f))) else Some (NoFrame f)) (inside f v.post.machine.frames real)
            ∙ ap (λ y. refer_by v.post.machine.limit owner f y (ref_read y)) at ∙ refused_by v.post.machine.limit owner f word x why,
        load_tells v u (Refs f) kinds.Look None word look telling,
      )

  module _ (w : PortValue) (o : Open) (read : ref_read word ≡ Some (Owned o.owner o.allocated o.count)) (is : open_word o ≡ word) where
    pub twin_lost : (found : ℕ) → Moves u w (Refs f) (Cas (open_word o) (raised_word o)) kinds.Ref None found → found ≢ open_word o → is_telling v ≡ true → ⊥
    twin_lost found raise off telling =
        let on = moves_telling v u (Refs f) Load kinds.Look None word look ∙ telling in
        off (sym (told_there u w (Refs f) _ kinds.Ref None found raise on) ∙ load_tells v u (Refs f) kinds.Look None word look telling (Refs f) ∙ told_there v u (Refs f) Load kinds.Look None word look telling ∙ sym is)

    pub refer_none : o.owner ≡ owner → o.count < v.post.machine.limit → refer_by v.post.machine.limit owner f word (ref_read word) ≡ None
    refer_none whose low = ap (refer_by v.post.machine.limit owner f word) read ∙ rw (when_eq o.owner owner whose, room v.post.machine.limit o.count low) refl

    cas_left : (y : ℕ) → y ≡ open_word o → left_by (Cas (open_word o) (raised_word o)) y ≡ raised_word o
    unfolding left_by
    cas_left y at = rw (when_eq y (open_word o) at) refl

    store_left : (y z : ℕ) → left_by (Store y) z ≡ y
    unfolding left_by
    store_left y z = refl

    pub twin_got : o.owner ≡ owner → o.count < v.post.machine.limit → Moves u w (Refs f) (Cas (open_word o) (raised_word o)) kinds.Ref None (open_word o) → TwinGet {A = ℕ} v w f owner (Ok f)
    twin_got whose low raise telling =
        let n = v.post.machine in
        let m : Words = told_word v in
        let at : m (Refs f) ≡ word = told_there v u (Refs f) Load kinds.Look None word look telling in
        let on = moves_telling v u (Refs f) Load kinds.Look None word look ∙ telling in
        let all : Leaves w (change (Cas (open_word o) (raised_word o)) (Refs f) m) =
        leaves_then u w (Cas (open_word o) (raised_word o)) (Refs f) m (load_tells v u (Refs f) kinds.Look None word look telling) (leaves u w (Refs f) _ kinds.Ref None (open_word o) raise on) in
        let more : one_more (m (Refs f)) (ref_read (m (Refs f))) ≡ raised_word o = ap (λ y. one_more y (ref_read y)) at ∙ ap (one_more word) read in (
          ap (λ b. if b then refer_by n.limit owner f (m (Refs f)) (ref_read (m (Refs f))) else Some (NoFrame f)) (inside f n.frames real)
              ∙ ap (λ y. refer_by n.limit owner f y (ref_read y)) at ∙ refer_none whose low,
          λ q. all q ∙ ap (λ y. if is_same q (Refs f) then y else m q) (cas_left (m (Refs f)) (at ∙ sym is) ∙ sym more ∙ sym (store_left (one_more (m (Refs f)) (ref_read (m (Refs f)))) (m (Refs f)))),
        )

-- ---- a reference is given back
pub twin_more : (v u : PortValue) (f w : ℕ) → Moves v u (Refs f) (Add one_down) kinds.Ref None w → ref_count w ≢ 1 → is_telling v ≡ true → Leaves u (put f (told_word v))
twin_more v u f w lower off telling q =
    let m : Words = told_word v in
    let at : m (Refs f) ≡ w = told_there v u (Refs f) _ kinds.Ref None w lower telling in
    leaves v u (Refs f) _ kinds.Ref None w lower telling q
    ∙ ap (λ b. (if b then set_free f (owner_number (owner_of (m (Refs f)))) (lowered f m) else lowered f m) q) (sym (ap (λ y. ref_count y == 1) at ∙ when_ne (ref_count w) 1 off))

pub low_rest : (y : ℕ) → y < 2 ^ 36 → y % 2 ^ 36 ≡ y
low_rest y low = omega (arith, low)

pub twin_last : (v u x : PortValue) (f w owner : ℕ) (allocated : Bool) → Moves v u (Refs f) (Add one_down) kinds.Ref None w → ref_read w ≡ Some (Owned owner allocated 1) → Frees u x f owner → is_telling v ≡ true →
    Leaves x (put f (told_word v))
unfolding ref_count owner_of
twin_last v u x f w owner allocated lower read frees telling q =
    let m : Words = told_word v in
    let at : m (Refs f) ≡ w = told_there v u (Refs f) _ kinds.Ref None w lower telling in
    let t1 = moves_telling v u _ _ _ _ _ lower ∙ telling in
    let t2 = moves_telling u frees.a _ _ _ _ _ frees.look ∙ t1 in
    let t3 = moves_telling frees.a frees.b _ _ _ _ _ frees.bit ∙ t2 in
    let t4 = moves_telling frees.b frees.d _ _ _ _ _ frees.free ∙ t3 in
    let one : Leaves u (lowered f m) = leaves v u _ _ _ _ _ lower telling in
    let two : Leaves frees.a (lowered f m) = λ p. load_tells u frees.a Clock kinds.Look None frees.stamp frees.look t1 p ∙ one p in
    let three = leaves_then frees.a frees.b (Add (map_bit f)) (Map (f / 64)) (lowered f m) two (leaves frees.a frees.b _ _ _ _ _ frees.bit t2) in
    let stamp : frees.stamp ≡ stamp_now (lowered f m) =
    sym (low_rest frees.stamp (clock_low u frees.a frees.stamp frees.look)) ∙ ap (λ y. y % 2 ^ 36) (sym (told_there u frees.a Clock _ _ _ _ frees.look t1) ∙ one Clock) in
    let four = leaves_then frees.b frees.d (Store (ref_write (Free frees.stamp))) (Refs f) _ three (leaves frees.b frees.d _ _ _ _ _ frees.free t3) in
    let five = leaves_then frees.d x (Add one_down) (Pages owner) _ four (leaves frees.d x _ _ _ _ _ frees.pages t4) in
    let who : owner_number (owner_of w) ≡ owner = rw read refl in
    let last : (ref_count w == 1) ≡ true = rw read refl in
    five q
    ∙ ap (λ y. change (Add one_down) (Pages owner) (change (Store (ref_write (Free y))) (Refs f) (change (Add (map_bit f)) (Map (f / 64)) (lowered f m))) q) stamp
    ∙ ap (λ d. set_free f d (lowered f m) q) (sym (ap (λ y. owner_number (owner_of y)) at ∙ who))
    ∙ ap (λ b. (if b then set_free f (owner_number (owner_of (m (Refs f)))) (lowered f m) else lowered f m) q) (sym (ap (λ y. ref_count y == 1) at ∙ last))

-- ---- for callers: stores, and the cells and words that they leave
