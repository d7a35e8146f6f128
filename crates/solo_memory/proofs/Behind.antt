-- How a port stands behind a call of a vCPU that is alone, which may have set machine-to-physical words.
use Rattle.std.proofs.Common.{◌≡◌, ℕ, ◌<◌, List, [], None, sym, ◌∙◌, subst}
use Rattle.xp_words.specs.declared.place.Place.TheVariants.{M2p}
use Rattle.xp_board.specs.Hands.{IsEmptyHand}
use Rattle.xp_board.specs.Lists.{Member}
use Rattle.xp_board.specs.Told.{Post, PortValue, told_word}
use Rattle.step_maker.specs.Answers.{Deed, Serves, SetsWord}
use Rattle.step_maker.specs.Asked.{Request}
use Rattle.step_maker.specs.Moves.{Came}
use Rattle.step_maker.proofs.Coming.{came_post}
use Rattle.answer_laws.proofs.Shared.{alone_telling}
use Rattle.table_words.specs.OldWords.{old_place}
use Rattle.table_words.specs.declared.old_words.OldWord.{OldWord}
use Rattle.table_words.specs.declared.old_words.OldWord.TheVariants.{First, Second}
use Rattle.table_law.specs.Plain.{Describes, Plain}
use Rattle.course_laws.proofs.Awaiting.{AloneStays}
use Rattle.script_law.specs.Values.{Solo}
use Rattle.solo_ports.specs.Standing.{Clean, IsUnkept}
use Rattle.solo_ports.proofs.Staying.{life_stays, own_stays, privilege_stays, stands_at}

-- no word of a vCPU is set
abbrev pub SetsNone : List Deed → Type 0
SetsNone ds = (s k y : ℕ) → Member (SetsWord s k y) ds → ⊥

pub nothing_set : SetsNone []
unfolding Member
nothing_set s k y at = at

module _ (v w : PortValue) (x : Solo) (clean : Clean v x) (stays : AloneStays) (came : Came v w) (empty : IsEmptyHand w.holdings) (r : Request) (ds : List Deed) (serves : Serves v w r ds) (spares : r.destroys ≡ None) (grants : r.grants ≡ None) (quiet : SetsNone ds)
    (olds : (o : OldWord) → told_word w (old_place v.post.vcpu o) ≡ told_word v (old_place v.post.vcpu o)) (p : Plain) (g : ℕ → ℕ) (maps : (f : ℕ) → f < v.post.machine.frames → g f ≡ told_word w (M2p f)) (unkept : IsUnkept v.post.machine p) (describes : Describes v.post.machine (told_word w) p) where
  pub clean_behind : Clean w (record x { frames = p; maps = g })
  clean_behind =
      let telling = alone_telling v clean.stands.alone in
      let before = clean.stands.others in
      let post = sym (came_post v w came) in
      record {
        stands = stands_at stays v w x (record x { frames = p; maps = g }) clean.stands came empty (olds Second ∙ clean.stands.second)
            (record {
              maps = maps;
              own = λ k shown. before.own k shown ∙ sym (own_stays v w r ds telling serves k shown (λ y. quiet v.post.vcpu k y));
              privileges = λ d low. before.privileges d low ∙ sym (privilege_stays v w r ds telling serves d grants);
              lives = λ d low. before.lives d low ∙ sym (life_stays v w r ds telling serves d spares);
            }) unkept;
        first = subst (λ (q : Post). told_word w (old_place q.vcpu First) ≡ 0) post (olds First ∙ clean.first);
        frames = subst (λ (q : Post). Describes q.machine (told_word w) p) post describes;
      }
