-- What steps and marks leave of a hand, as far as old translations go.
use Rattle.std.proofs.Common.{◌≡◌, ℕ, ◌+◌, ◌==◌, Bool, length, refl, sym, ◌∙◌, ap, subst}
use Rattle.xp_words.specs.declared.entry.Demand.{Demand}
use Rattle.xp_words.specs.KindWords.{kind_fields}
use Rattle.xp_words.specs.declared.place.Place.{Place}
use Rattle.xp_board.specs.declared.step.Item.{Item}
use Rattle.xp_board.specs.declared.holdings.Reached.{Reached}
use Rattle.xp_board.specs.declared.holdings.Holdings.{Holdings}
use Rattle.xp_board.specs.Lists.{EachOf, Member}
use Rattle.xp_board.specs.Hands.{claims_of}
use Rattle.xp_board.specs.Reach.{reached_by}
use Rattle.xp_board.specs.Settling.{demand_in, demand_out}
use Rattle.xp_board.specs.After.{learned, learned_cell, learned_own, learned_work, learned_claim}
use Rattle.xp_board.proofs.HandLists.{EachOf-changed, times-changed}
use Rattle.xp_board.proofs.HandParts.{Beside, Translations, beside_own, translations_own, beside_out, beside_in, translations_out, translations_in, learned_by}
use Rattle.xp_board.proofs.Sums.{either}

-- ---- hands
-- From hand a to hand b the steps are the same; what is in work or ending besides the frames of before has been so
-- for no step of these.
pub record HandLike (a b : Holdings) : Type 1 where
  pub steps : b.steps ≡ a.steps
  pub works : (P : ℕ → ℕ → Type 0) → ((f : ℕ) → P f (length a.steps + 1)) → EachOf (λ e. P e.frame e.since) a.works →
      EachOf (λ e. P e.frame e.since) b.works
  pub ending : (P : ℕ → ℕ → Type 0) → ((f : ℕ) → P f (length a.steps + 1)) → EachOf (λ e. P e.frame e.since) a.ending →
      EachOf (λ e. P e.frame e.since) b.ending

-- nothing more is claimed, cached, or reached by the walk
pub record HandStays (a b : Holdings) : Type 1 where
  pub like : HandLike a b
  pub claims : (g : ℕ) → claims_of g a.claimed ≡ 0 → claims_of g b.claimed ≡ 0
  pub cache : (x : Item) → Member x b.cache → Member x a.cache
  pub walk : (x : Reached) → Member x (reached_by b.walk) → Member x (reached_by a.walk)

pub same_like : (a : Holdings) → HandLike a a
same_like a = record { steps = refl; works = λ P new e. e; ending = λ P new e. e }

pub same_stays : (a : Holdings) → HandStays a a
same_stays a = record { like = same_like a; claims = λ g e. e; cache = λ x e. e; walk = λ x e. e }

-- the other parts of a hand play no part
pub parts_like : (a b : Holdings) → b.steps ≡ a.steps → b.works ≡ a.works → b.ending ≡ a.ending → HandLike a b
parts_like a b steps works ending =
    record {
      steps = steps;
      works = λ P new e. subst (λ xs. EachOf (λ x. P x.frame x.since) xs) (sym works) e;
      ending = λ P new e. subst (λ xs. EachOf (λ x. P x.frame x.since) xs) (sym ending) e;
    }

pub like_stays : (a b : Holdings) → HandLike a b → b.claimed ≡ a.claimed → b.cache ≡ a.cache → b.walk ≡ a.walk → HandStays a b
like_stays a b like claimed cache walk =
    record {
      like = like;
      claims = λ g e. ap (λ xs. claims_of g xs) claimed ∙ e;
      cache = λ x e. subst (λ xs. Member x xs) cache e;
      walk = λ x e. subst (λ w. Member x (reached_by w)) walk e;
    }

pub parts_stay : (a b : Holdings) → b.steps ≡ a.steps → b.works ≡ a.works → b.ending ≡ a.ending → b.claimed ≡ a.claimed → b.cache ≡ a.cache →
    b.walk ≡ a.walk → HandStays a b
parts_stay a b steps works ending claimed cache walk = like_stays a b (parts_like a b steps works ending) claimed cache walk

-- but for the frames in work
pub works_stay : (a b : Holdings) → b.steps ≡ a.steps → b.ending ≡ a.ending → b.claimed ≡ a.claimed → b.cache ≡ a.cache → b.walk ≡ a.walk →
    ((P : ℕ → ℕ → Type 0) → ((f : ℕ) → P f (length a.steps + 1)) → EachOf (λ e. P e.frame e.since) a.works → EachOf (λ e. P e.frame e.since) b.works) →
    HandStays a b
works_stay a b steps ending claimed cache walk works =
    let rest = parts_stay a (record b { works = a.works }) steps refl ending claimed cache walk in
    record {
      like = record { steps = steps; works = works; ending = rest.like.ending };
      claims = rest.claims;
      cache = rest.cache;
      walk = rest.walk;
    }

pub then_like : (a b c : Holdings) → HandLike a b → HandLike b c → HandLike a c
then_like a b c one two =
    let new : (P : ℕ → ℕ → Type 0) → ((f : ℕ) → P f (length a.steps + 1)) → (f : ℕ) → P f (length b.steps + 1) =
    λ P first f. subst (λ xs. P f (length xs + 1)) (sym one.steps) (first f) in
    record {
      steps = two.steps ∙ one.steps;
      works = λ P first e. two.works P (new P first) (one.works P first e);
      ending = λ P first e. two.ending P (new P first) (one.ending P first e);
    }

pub then_stays : (a b c : Holdings) → HandStays a b → HandStays b c → HandStays a c
then_stays a b c one two =
    record {
      like = then_like a b c one.like two.like;
      claims = λ g e. two.claims g (one.claims g e);
      cache = λ x e. one.cache x (two.cache x e);
      walk = λ x e. one.walk x (two.walk x e);
    }

-- ---- what is learned of the word at a place

pub cell_stays : (f i w : ℕ) (a : Holdings) → HandStays a (learned_cell f i w a)
cell_stays f i w a =
    record {
      like = record {
        steps = refl;
        works = λ P new e. EachOf-changed (λ x. P x.frame x.since) (λ x. x.frame) f (learned_work i w) a.works
            (λ x p. either (λ y. P y.frame y.since) (kind_fields x.word).unflushed x _ p p) e;
        ending = λ P new e. e;
      };
      claims = λ g e. times-changed (λ x. x.frame) g f (learned_claim i w) a.claimed (λ x. refl) ∙ e;
      cache = λ x e. e;
      walk = λ x e. e;
    }

pub beside_stays : (a b : Holdings) → Beside a b → Translations a b → HandStays a b
beside_stays a b k l = parts_stay a b k.steps k.works k.ending k.claimed l.cache l.walk

pub own_stays : (k w : ℕ) (a : Holdings) → HandStays a (learned_own k w a)
own_stays k w a = beside_stays a (learned_own k w a) (beside_own k w a) (translations_own k w a)

pub learned_stays : (s : ℕ) (p : Place) (found left : ℕ) (a : Holdings) → HandStays a (learned s p found left a)
learned_stays s p found left a =
    learned_by (HandStays a) s p found left a (same_stays a) (λ d. either (HandStays a) (found == 0) _ a (parts_stay a _ refl refl refl refl refl refl) (same_stays a)) (λ k. own_stays k left a)
    (λ f i. cell_stays f i left a)

-- ---- references
pub out_stays : (d : Demand) (a : Holdings) → HandStays a (demand_out d a)
out_stays d a = beside_stays a (demand_out d a) (beside_out d a) (translations_out d a)

pub in_stays : (sure : Bool) (d : Demand) (a : Holdings) → HandStays a (demand_in sure d a)
in_stays sure d a = beside_stays a (demand_in sure d a) (beside_in sure d a) (translations_in sure d a)
