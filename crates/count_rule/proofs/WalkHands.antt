-- What a walk, or a Run step, leaves of the hand.
use Rattle.std.proofs.Common.{◌≡◌, ℕ, ◌==◌, not, nat_lt, Bool, refl, ◌∙◌}
use Rattle.xp_words.specs.Entries.{is_bit, frame_of}
use Rattle.xp_words.specs.Machine.{Machine}
use Rattle.xp_board.specs.declared.holdings.Holdings.{Holdings}
use Rattle.xp_board.specs.declared.holdings.Walk.{Walk}
use Rattle.xp_board.specs.FillSteps.{level_of, touched, started, loaded, descended}
use Rattle.xp_board.specs.RunSteps.{ran_now}
use Rattle.count_rule.proofs.Learning.{Same, same_refl, same_of}
use Rattle.xp_board.proofs.HandParts.{references_descended, beside_descended, references_loaded, beside_loaded, references_started, beside_started, references_ran, beside_ran}
use Rattle.xp_board.proofs.Sums.{either}

-- ---- what a walk leaves in the hand
pub same_descended : (n : Machine) (walk : Walk) (w : ℕ) (b : Holdings) → Same b (descended n walk w b)
same_descended n walk w b = same_of b (descended n walk w b) (references_descended n walk w b) (beside_descended n walk w b)

pub same_loaded : (n : Machine) (f i w : ℕ) (walk : Walk) (b : Holdings) → Same b (loaded n f i w walk b)
same_loaded n f i w walk b = same_of b (loaded n f i w walk b) (references_loaded n f i w walk b) (beside_loaded n f i w walk b)

pub same_started : (k w : ℕ) (write : Bool) (b : Holdings) → Same b (started k w write b)
same_started k w write b = same_of b (started k w write b) (references_started k w write b) (beside_started k w write b)

pub same_ran : (w : ℕ) (b : Holdings) → Same b (ran_now w b)
same_ran w b = same_of b (ran_now w b) (references_ran w b) (beside_ran w b)

pub same_twice : (a b c : Holdings) → Same a b → Same b c → Same a c
same_twice a b c k l =
    same_refl a c (l.refs ∙ k.refs) (l.typed ∙ k.typed) (l.works ∙ k.works) (l.locks ∙ k.locks) (l.ending ∙ k.ending) (l.claimed ∙ k.claimed) (l.raised ∙ k.raised) (l.credits ∙ k.credits)

-- it stays as cold as it was
pub record Chill (b c : Holdings) : Type 0 where
  pub cold : c.cold ≡ b.cold

chill : (b c : Holdings) → c.cold ≡ b.cold → Chill b c
chill b c e = record { cold = e }

pub cold_descended : (n : Machine) (walk : Walk) (w : ℕ) (b : Holdings) → Chill b (descended n walk w b)
cold_descended n walk w b = either (Chill b) (not (nat_lt (frame_of w) n.frames)) _ _ (chill b _ refl) (either (Chill b) (level_of walk == 1) _ _ (chill b _ refl) (chill b _ refl))

pub cold_loaded : (n : Machine) (f i w : ℕ) (walk : Walk) (b : Holdings) → Chill b (loaded n f i w walk b)
cold_loaded n f i w walk b = either (Chill b) (not (is_bit 0 w)) _ _ (chill b _ refl) (either (Chill b) (touched walk w == w) _ _ (cold_descended n walk w b) (chill b _ refl))

pub cold_started : (k w : ℕ) (write : Bool) (b : Holdings) → Chill b (started k w write b)
cold_started k w write b = either (Chill b) (w == 0) _ _ (chill b _ refl) (chill b _ refl)
