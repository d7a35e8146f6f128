-- A reference that is taken, used and given back.
use Rattle.std.proofs.Common.{◌≡◌, ℕ, ◌<◌, nat_lt, true, List, [], ◌∷◌, ◌++◌, ◌||◌, not, None, Ok, refl, ap, ◌∙◌, subst, arith}
use Rattle.std.proofs.lemmas.Bool.Decides.{nat_tests}
use Rattle.xp_words.specs.declared.place.Place.TheVariants.{M2p}
use Rattle.xp_board.specs.declared.step.Act.TheVariants.{Store}
use Rattle.xp_board.specs.declared.step.StepKind.TheVariants as kinds
use Rattle.xp_board.specs.declared.holdings.Holdings.{Holdings}
use Rattle.xp_board.specs.declared.holdings.Reference.{Reference}
use Rattle.xp_board.specs.declared.holdings.OwnerFound.TheVariants as owners
use Rattle.xp_board.specs.Hands.{hand, claims_of}
use Rattle.xp_board.specs.Told.{PortValue}
use Rattle.step_maker.specs.Holds.{Holds, Same, still}
use Rattle.step_maker.specs.Moves.{Moves}
use Rattle.step_maker.specs.Answers.{Serves, Deed, SetsM2p, only_if}
use Rattle.step_maker.specs.Asked.{of_frame, of_back}
use Rattle.step_maker.proofs.Piecing.{serves_step, serves_back}
use Rattle.xp_words.specs.declared.place.Place.{Place}
use Rattle.xp_board.specs.Told.{is_telling, told_word}
use Rattle.step_maker.specs.Asked.{Request}
use Rattle.step_maker.proofs.Piecing.{serves_came}
use Rattle.step_maker.specs.Plain.{Words, change, Leaves}
use Rattle.step_maker.proofs.Telling.{came_telling, moves_telling, leaves, leaves_then}
use Rattle.frame_words.specs.Plain.{got, put, TwinGet}
use Rattle.m2p_map.specs.Maps.{TwinSet}
use Rattle.frame_words.specs.Refs.{took, MayPut}
use Rattle.frame_words.specs.Freeing.{gave}
use Rattle.frame_words.proofs.Putting.{without_newest}
use Rattle.frame_words.proofs.Taking.{names_itself}

pub held : (f : ℕ) (h : Holdings) → MayPut f h → 0 < hand f h
unfolding hand
held f h gives = let some = gives.held in omega arith

pub given_back : (v u x w : PortValue) (f owner : ℕ) → Holds v u (took f owner v.holdings) → Same u x → Holds x w (gave f x.holdings) → Same v w
given_back v u x w f owner took_one same gives =
    gives ∙ ap (λ (q : PortValue). still (record q { holdings = gave f q.holdings })) (same ∙ took_one)
    ∙ ap (λ rs. still (record v { holdings = record v.holdings { refs = rs } })) (without_newest (λ (e : Reference). e.frame) f (record { frame = f; owner = owners.Of owner }) v.holdings.refs refl)

yes : (k : ℕ) → 0 < k → nat_lt 0 k ≡ true
yes k some = grind (arith, nat_tests)

pub maps : (v u x w : PortValue) (f owner gpfn other : ℕ) → Serves v u (of_frame f owner None) [] → MayPut f u.holdings → Moves u x (M2p f) (Store gpfn) kinds.M2p None other →
    Serves x w (of_back f) [] → Serves v w (of_frame f owner None) (SetsM2p f gpfn ∷ [])
maps v u x w f owner gpfn other gets gives store puts =
    let r = of_frame f owner None in
    let stored = serves_step v u x r [] _ _ _ _ _ gets store (names_itself v.post.machine v.post.vcpu f owner None _) in
    let deed = ap (λ b. only_if (b || not (nat_lt 0 (claims_of f u.holdings.claimed))) (SetsM2p f gpfn) ++ []) (yes (hand f u.holdings) (held f u.holdings gives)) in
    serves_back v x w r (SetsM2p f gpfn ∷ []) [] (subst (Serves v x r) deed stored) f (names_itself v.post.machine v.post.vcpu f owner None _) puts

pub maps_at : (v u x w : PortValue) (g f owner gpfn other : ℕ) → g ≡ f → Serves v u (of_frame f owner None) [] → MayPut g u.holdings → Moves u x (M2p g) (Store gpfn) kinds.M2p None other →
    Serves x w (of_back g) [] → Serves v w (of_frame f owner None) (SetsM2p f gpfn ∷ [])
maps_at v u x w g f owner gpfn other is gets gives store puts =
    maps v u x w f owner gpfn other gets (subst (λ k. MayPut k u.holdings) is gives) (subst (λ k. Moves u x (M2p k) (Store gpfn) kinds.M2p None other) is store) (subst (λ k. Serves x w (of_back k) []) is puts)

-- ---- on a board that tells all words
-- words that are the same everywhere are one
pub same_words : (m n : Words) → ((q : Place) → m q ≡ n q) → m ≡ n
same_words m n same = λ i q. same q i

pub set_twin : (v u x w : PortValue) (g f owner gpfn other : ℕ) (r : Request) (ds : List Deed) → g ≡ f → Serves v u r ds → TwinGet {A = ℕ} v u f owner (Ok g) → Moves u x (M2p g) (Store gpfn) kinds.M2p None other →
    (is_telling x ≡ true → Leaves w (put g (told_word x))) → TwinSet v w f owner gpfn (Ok tt)
set_twin v u x w g f owner gpfn other r ds is gets gives store puts telling =
    let got_it = gives telling in
    let at_u : is_telling u ≡ true = came_telling v u (serves_came v u r ds gets) ∙ telling in
    let at_x = moves_telling u x (M2p g) (Store gpfn) kinds.M2p None other store ∙ at_u in
    let set_it : Leaves x (change (Store gpfn) (M2p f) (got f (told_word v))) =
    subst (λ k. Leaves x (change (Store gpfn) (M2p k) (got f (told_word v)))) is (leaves_then u x (Store gpfn) (M2p g) (got f (told_word v)) got_it.1 (leaves u x (M2p g) (Store gpfn) kinds.M2p None other store at_u)) in
    (got_it.0, λ q. subst (λ k. told_word w q ≡ put k (told_word x) q) is (puts at_x q) ∙ ap (λ (m : Words). put f m q) (same_words (told_word x) _ set_it))
