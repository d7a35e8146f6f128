-- Why a claim stops: an exchange was lost, or the domain is full.
use Rattle.std.proofs.Common.{◌≡◌, ◌≢◌, ℕ, ◌+◌, ◌<◌, ◌≤◌, true, List, length, slice_index, None, refl, ap, subst, arith}
use Rattle.xp_words.specs.Places.{number, sizes_of}
use Rattle.xp_words.specs.RefWords.{ref_write}
use Rattle.xp_words.specs.declared.place.Place.TheVariants.{Pages, Refs}
use Rattle.xp_words.specs.declared.refs.RefWord.TheVariants.{Dying, Free}
use Rattle.xp_words.specs.declared.reply.Pause.TheVariants.{Lost}
use Rattle.xp_words.specs.declared.reply.Refusal.TheVariants.{DomainFull}
use Rattle.xp_words.specs.declared.reply.Stop.TheVariants.{Refused, Paused}
use Rattle.xp_board.specs.Acts.{left_by}
use Rattle.xp_board.specs.Lists.{times}
use Rattle.xp_board.specs.Readings.{domain_of}
use Rattle.xp_board.specs.declared.step.Act.TheVariants.{Cas, Load}
use Rattle.xp_board.specs.declared.step.StepKind.TheVariants as kinds
use Rattle.xp_board.specs.Told.{PortValue}
use Rattle.step_maker.specs.Moves.{Came, Met, Moves}
use Rattle.step_maker.proofs.Coming.{came_trans, moment_of, met_after, met_before, moves_came, moves_met}
use Rattle.step_maker.specs.Answers.{Deed, Stops}
use Rattle.step_maker.specs.Asked.{Request, of_block}
use Rattle.step_maker.specs.Pauses.{Loses}
use Rattle.step_maker.specs.Reasons.{taken}
use Rattle.step_maker.proofs.Piecing.{serves_came}
use Rattle.flush_words.proofs.Lasting.{last_left}
use Rattle.frame_claims.specs.Blocks.{IsBlockOf, ServesBlock}
use Rattle.frame_claims.specs.Choosing.{KeepsLast, StillFree}
use Rattle.frame_claims.specs.Claiming.{ServesPages, StopsPages}
use Rattle.frame_claims.proofs.Finding.{still_later}
use Rattle.frame_claims.proofs.Serving.{block_asks}

-- ---- steps that serve a block, or pages
any_block : ℕ → ℕ → Request
any_block first k = record (of_block 0 k 0) { names = λ g. true }

pub block_came : (v w : PortValue) (first k : ℕ) (ds : List Deed) → ServesBlock v w first k ds → Came v w
unfolding any_block
block_came v w first k ds serves = serves_came v w (any_block first k) ds (serves (any_block first k) (record { number = k; pages = refl; names = λ f low high. refl }))

pub pages_came : (v w : PortValue) (ds : List Deed) → ServesPages v w ds → Came v w
unfolding any_block
pages_came v w ds serves = serves_came v w (any_block 0 1) ds (serves (any_block 0 1) (record { number = 1; pages = refl }))

-- ---- a frame
module _ (v u t x w : PortValue) (f s d found : ℕ) (came : Came v u) (still : StillFree v u f s) (on : Came u t) (keeps : KeepsLast u t (Refs f))
    (try : Moves t x (Refs f) (Cas (ref_write (Free s)) (ref_write (Dying d))) kinds.Ref None found) (off : found ≢ ref_write (Free s)) (after : Came x w) where
  abbrev now : StillFree v t f s
  now = still_later v u t f s came on keeps still

  frame_loses : Loses v.post.machine (Met v w) (Refs f) s found
  unfolding moment_of ref_write
  frame_loses =
      let first = came_trans v u t came on in
      record {
        before = now.seen.found.moment;
        exchange = moment_of t (Refs f) (Cas (ref_write (Free s)) (ref_write (Dying d))) kinds.Ref None found;
        new = ref_write (Dying d);
        was_before = met_before v t w _ now.seen.found.was (came_trans t x w (moves_came t x _ _ _ _ _ try) after);
        was_exchange = met_after v t w _ first (met_before t x w _ (moves_met t x _ _ _ _ _ try) after);
        place_before = now.seen.found.place;
        place = refl;
        act = refl;
        word = refl;
        last = now.last;
        other = off;
      }

  pub lost_frame : (r : Request) (first k : ℕ) → IsBlockOf r first k → first ≤ f → f < first + k → (place : ℕ) → place ≡ number (sizes_of v.post.machine) (Refs f) → Stops v w r (Paused (Lost place s found))
  unfolding Stops frame_loses
  lost_frame r first k b low high place at =
      (Refs f, at, (λ e. cc), (frame_loses, (block_asks v.post.machine v.post.vcpu f r (Met v w) first k b low high, λ free. (b.number, b.pages))))

-- ---- pages
module _ (v a : PortValue) (d found : ℕ) (own : d ≡ domain_of v.post.machine v.post.vcpu) (look : Moves v a (Pages d) Load kinds.Look None found) where
  pub full : (k : ℕ) → times d v.holdings.credits ≡ 0 → slice_index v.post.machine.page_limit d < found + k → StopsPages v a k (Refused (DomainFull found))
  unfolding Stops moment_of
  full k none less r t enough = (
    v.holdings,
    record {
      moment = moment_of v (Pages d) Load kinds.Look None found;
      was = moves_met v a _ _ _ _ _ look;
      place = ap (λ e. Pages e) own;
      word = refl;
      hand = refl;
    },
    subst (λ e. times e v.holdings.credits ≡ 0) own none,
    (t.number, t.pages, subst (λ e. slice_index v.post.machine.page_limit e < found + t.number) own (omega (arith, less, enough))),
  )

  module _ (w : PortValue) (k other : ℕ) (try : Moves a w (Pages d) (Cas found (found + k)) kinds.Pages None other) (off : other ≢ found) where
    pages_lose : Loses v.post.machine (Met v w) (Pages d) found other
    unfolding moment_of left_by
    pages_lose =
        record {
          before = moment_of v (Pages d) Load kinds.Look None found;
          exchange = moment_of a (Pages d) (Cas found (found + k)) kinds.Pages None other;
          new = found + k;
          was_before = met_before v a w _ (moves_met v a _ _ _ _ _ look) (moves_came a w _ _ _ _ _ try);
          was_exchange = met_after v a w _ (moves_came v a _ _ _ _ _ look) (moves_met a w _ _ _ _ _ try);
          place_before = refl;
          place = refl;
          act = refl;
          word = refl;
          last = last_left v a (Pages d) Load kinds.Look None found look (length v.holdings.steps) (omega arith);
          other = off;
        }

    pub lost_pages : (place : ℕ) → place ≡ number (sizes_of v.post.machine) (Pages d) → StopsPages v w k (Paused (Lost place found other))
    unfolding Stops pages_lose
    lost_pages place at r t enough = (Pages d, at, (λ e. cc), (pages_lose, (taken t.number t.pages own, (t.number, t.pages))))
