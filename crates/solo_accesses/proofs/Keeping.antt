-- Where cells alone were changed, a port stands to the plain value with these cells as it did before.
use Rattle.std.proofs.Common.{◌≡◌, ℕ, Option, refl, sym, ap, ◌∙◌, subst}
use Rattle.xp_words.specs.KindWords.{kind_fields}
use Rattle.xp_words.specs.Machine.{Machine}
use Rattle.xp_words.specs.declared.kind.KindWord.{KindWord}
use Rattle.xp_words.specs.declared.place.Place.TheVariants.{Kind, Life, M2p, Priv, Refs, Vcpu}
use Rattle.xp_board.specs.Hands.{IsEmptyHand}
use Rattle.xp_board.specs.Told.{Post, PortValue, told_word}
use Rattle.step_maker.specs.Moves.{Came}
use Rattle.step_maker.specs.Plain.{Words}
use Rattle.step_maker.proofs.Coming.{came_post}
use Rattle.course_laws.proofs.Awaiting.{AloneStays}
use Rattle.table_words.specs.OldWords.{old_place}
use Rattle.table_words.specs.declared.old_words.OldWord.TheVariants.{First, Second}
use Rattle.table_law.specs.Plain.{Describes, Plain, Share, share_of, sober}
use Rattle.script_law.specs.Values.{Solo, with_frames}
use Rattle.solo_ports.specs.Standing.{Clean, IsUnkept, ShowsOthers}
use Rattle.solo_ports.proofs.Staying.{stands_at}
use Rattle.solo_accesses.proofs.Cells.{CellsOf, OnlyCells}

-- it changes cells alone
pub record KeepsFrames (p q : Plain) : Type 0 where
  pub shares : q.shares ≡ p.shares
  pub kinds : q.kinds ≡ p.kinds

pub unkept_kinds : (n : Machine) (p q : Plain) → q.kinds ≡ p.kinds → IsUnkept n p → IsUnkept n q
unkept_kinds n p q same unkept g inside = ap (λ (f : ℕ → KindWord). (f g).kept) same ∙ unkept g inside

module _ (n : Machine) (m u : Words) (p q : Plain) (only : OnlyCells m u) (same : KeepsFrames p q) where
  pub describes_cells : Describes n m p → CellsOf n u q → Describes n u q
  describes_cells d cells =
      record {
        shares = λ g inside. ap (λ (f : ℕ → Option Share). f g) same.shares ∙ d.shares g inside ∙ sym (ap share_of (only (Refs g) refl));
        kinds = λ g inside. ap (λ (f : ℕ → KindWord). f g) same.kinds ∙ d.kinds g inside ∙ sym (ap (λ w. sober (kind_fields w)) (only (Kind g) refl));
        cells = cells;
      }

  shows_cells : (s : ℕ) (x : Solo) → ShowsOthers n s m x → ShowsOthers n s u (with_frames q x)
  shows_cells s x a =
      record {
        maps = λ f inside. a.maps f inside ∙ sym (only (M2p f) refl);
        own = λ k is. a.own k is ∙ sym (only (Vcpu s k) refl);
        privileges = λ d inside. a.privileges d inside ∙ sym (only (Priv d) refl);
        lives = λ d inside. a.lives d inside ∙ sym (only (Life d) refl);
      }

module _ (stays : AloneStays) (v w : PortValue) (x : Solo) (q : Plain) (clean : Clean v x) (came : Came v w) (empty : IsEmptyHand w.holdings) (only : OnlyCells (told_word v) (told_word w))
    (same : KeepsFrames x.frames q) (cells : CellsOf v.post.machine (told_word w) q) where
  pub clean_cells : Clean w (with_frames q x)
  clean_cells =
      let a = clean.stands in
      let post : v.post ≡ w.post = sym (came_post v w came) in
      record {
        stands = stands_at stays v w x (with_frames q x) a came empty (only (old_place v.post.vcpu Second) refl ∙ a.second) (shows_cells v.post.machine (told_word v) (told_word w) x.frames q only same v.post.vcpu x a.others)
            (unkept_kinds v.post.machine x.frames q same.kinds a.unkept);
        first = subst (λ (o : Post). told_word w (old_place o.vcpu First) ≡ 0) post (only (old_place v.post.vcpu First) refl ∙ clean.first);
        frames = subst (λ (o : Post). Describes o.machine (told_word w) q) post (describes_cells v.post.machine (told_word v) (told_word w) x.frames q only same clean.frames cells);
      }
