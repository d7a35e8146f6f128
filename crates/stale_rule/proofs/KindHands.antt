-- What steps on kind words leave of a hand.
use Rattle.std.proofs.Common.{ℕ, ◌==◌, refl}
use Rattle.xp_words.specs.declared.kind.KindWord.{KindWord}
use Rattle.xp_words.specs.KindWords.{kind_fields}
use Rattle.xp_words.specs.Machine.{Machine}
use Rattle.xp_board.specs.declared.holdings.Work.{Work}
use Rattle.xp_board.specs.declared.holdings.OwnerFound.{OwnerFound}
use Rattle.xp_board.specs.declared.holdings.Holdings.{Holdings}
use Rattle.xp_board.specs.Readings.{is_work, is_closing}
use Rattle.xp_board.specs.KindSteps.{KindRow, Count, Locks, Pin, Unpin, Resume, TakeBack, Begin, after_kind_row, Form, Live, Partial, InWork, Dead, after_form, dropped, unlocked, as_typed, put_partial, kept_owner}
use Rattle.xp_board.proofs.HandLists.{EachOf-if, EachOf-more, EachOf-changed, EachOf-without}
use Rattle.stale_rule.proofs.Like.{HandStays, same_stays, parts_stay, works_stay, then_stays}
use Rattle.xp_board.proofs.Sums.{either}

pub row_stays : (row : KindRow) (f : ℕ) (k l : KindWord) (new : ℕ) (a : Holdings) → HandStays a (after_kind_row row f k l new a)
row_stays Count f k l new a = parts_stay a _ refl refl refl refl refl refl
row_stays Locks f k l new a = parts_stay a _ refl refl refl refl refl refl
row_stays Pin f k l new a = parts_stay a _ refl refl refl refl refl refl
row_stays Unpin f k l new a = parts_stay a _ refl refl refl refl refl refl
row_stays TakeBack f k l new a = parts_stay a _ refl refl refl refl refl refl
row_stays Resume f k l new a = works_stay a _ refl refl refl refl refl (λ P first e. EachOf-more (λ x. P x.frame x.since) _ a.works (first f) e)
row_stays Begin f k l new a = works_stay a _ refl refl refl refl refl (λ P first e. EachOf-more (λ x. P x.frame x.since) _ a.works (first f) e)

pub dropped_stays : (f w left : ℕ) (a : Holdings) → HandStays a (dropped f w left a)
dropped_stays f w left a =
    works_stay a _ refl refl refl refl refl
    (λ P first e. EachOf-if (λ x. P x.frame x.since) ((kind_fields w).number == 1) _ a.works (EachOf-more (λ x. P x.frame x.since) _ a.works (first f) e) e)

pub unlocked_stays : (f w left : ℕ) (a : Holdings) → HandStays a (unlocked f w left a)
unlocked_stays f w left a =
    works_stay a _ refl refl refl refl refl
    (λ P first e. EachOf-if (λ x. P x.frame x.since) ((kind_fields w).number == 1) _ a.works (EachOf-more (λ x. P x.frame x.since) _ a.works (first f) e) e)

typed_first : (f : ℕ) (e : Work) (a : Holdings) → HandStays a (as_typed f e a)
typed_first f e a = either (HandStays a) (is_closing (kind_fields e.word)) _ a (parts_stay a _ refl refl refl refl refl refl) (same_stays a)

partial_stays : (n : Machine) (s f : ℕ) (l : KindWord) (new : ℕ) (owner : OwnerFound) (a : Holdings) → HandStays a (put_partial n s f l new owner a)
partial_stays n s f l new owner a =
    works_stay a _ refl refl refl refl refl (λ P first e. EachOf-without (λ x. P x.frame x.since) (λ x. x.frame) f a.works e)

pub form_stays : (form : Form) (n : Machine) (s f : ℕ) (e : Work) (l : KindWord) (new : ℕ) (a : Holdings) → HandStays a (after_form form n s f e l new a)
form_stays Live n s f e l new a =
    either (HandStays a) (l.number == 1) _ _
    (works_stay a _ refl refl refl refl refl (λ P first k. EachOf-without (λ x. P x.frame x.since) (λ x. x.frame) f a.works k))
    (works_stay a _ refl refl refl refl refl (λ P first k. EachOf-without (λ x. P x.frame x.since) (λ x. x.frame) f a.works k))
form_stays Partial n s f e l new a = then_stays _ _ _ (typed_first f e a) (partial_stays n s f l new (kept_owner f e a) (as_typed f e a))
form_stays InWork n s f e l new a =
    works_stay a _ refl refl refl refl refl (λ P first k. EachOf-changed (λ x. P x.frame x.since) (λ x. x.frame) f _ a.works (λ x p. p) k)
form_stays Dead n s f e l new a =
    either (HandStays a) (is_work (kind_fields e.word)) _ _
    (works_stay a _ refl refl refl refl refl (λ P first k. EachOf-without (λ x. P x.frame x.since) (λ x. x.frame) f a.works k))
    (works_stay a _ refl refl refl refl refl (λ P first k. EachOf-without (λ x. P x.frame x.since) (λ x. x.frame) f a.works k))
