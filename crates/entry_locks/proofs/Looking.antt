-- A look at a frame that is to be locked: what it serves, and why a call stops behind it.
use Rattle.std.proofs.Common.{◌≡◌, ℕ, ◌<◌, [], Some, None, IsTrue, refl, sym, ap, ◌∙◌, subst, inl}
use Rattle.xp_words.specs.Machine.{Machine}
use Rattle.xp_words.specs.declared.kind.KindWord.{KindWord}
use Rattle.xp_words.specs.declared.place.Place.TheVariants.{Kind}
use Rattle.xp_words.specs.declared.reply.Pause.TheVariants.{Busy}
use Rattle.xp_words.specs.declared.reply.Stop.TheVariants.{Paused}
use Rattle.xp_words.specs.KindWords.{kind_read}
use Rattle.xp_words.specs.Places.{sizes_of}
use Rattle.xp_board.specs.declared.holdings.OwnerFound.TheVariants as owners
use Rattle.xp_board.specs.declared.step.Act.TheVariants.{Load}
use Rattle.xp_board.specs.declared.step.StepKind.TheVariants as kinds
use Rattle.xp_board.specs.Hands.{ref_owner, refs_to}
use Rattle.xp_board.specs.KindSteps.{MayLock, locked_kind, still_looking}
use Rattle.xp_board.specs.Lists.{kept_of}
use Rattle.xp_board.specs.Told.{PortValue}
use Rattle.xp_board.proofs.KindForms.{fields_of}
use Rattle.xp_board.proofs.Sums.{when_eq}
use Rattle.step_maker.specs.Moves.{Met}
use Rattle.step_maker.proofs.Coming.{moment_of, moves_met}
use Rattle.step_maker.specs.Answers.{Serves, Stops}
use Rattle.step_maker.specs.Asked.{Asked, Passed, checked, named}
use Rattle.step_maker.specs.Finding.{Finding, FoundWith}
use Rattle.step_maker.proofs.Piecing.{moves_serves}
use Rattle.frame_types.specs.Taking.{LentBy}
use Rattle.frame_types.proofs.Entering.{lent_held, lent_known, lent_owner}
use Rattle.kind_words.proofs.KindFacts.{type_is_below}
use Rattle.entry_locks.specs.Locks.{is_worked_on, of_lock}
use Rattle.entry_locks.specs.Looked.{SeenToLock}
use Rattle.entry_locks.proofs.Standings.{IsFree, worked_busy}

module _ (b v : PortValue) (f owner word : ℕ) (l : SeenToLock b v f owner word) where
  pub asked : (n : Machine) (s : ℕ) (F : Finding) → Asked n s (of_lock f owner) F f owner None
  asked n s F = named (when_eq f f refl) refl tt

  found_there : FoundWith (Met b v) (Kind f) word b.holdings
  unfolding moment_of
  found_there = record { moment = moment_of b (Kind f) Load kinds.Look None word; was = moves_met b v (Kind f) Load kinds.Look None word l.look; place = refl; word = refl; hand = refl }

  passed : (F : Finding) → Passed b.post.machine (of_lock f owner) F f owner b.holdings
  passed F = checked (lent_known (sizes_of b.post.machine) f owner b.holdings l.lent)

  pub looked : Serves b v (of_lock f owner) []
  looked = moves_serves b v (of_lock f owner) (Kind f) Load kinds.Look None word l.look tt

  -- ---- another vCPU works on it
  pub busy_stops : (k : KindWord) → kind_read word ≡ Some k → IsTrue (is_worked_on k) → Stops b v (of_lock f owner) (Paused (Busy f word))
  unfolding Stops
  busy_stops k read on =
      inl (owner, None, b.holdings, asked b.post.machine b.post.vcpu (Met b v), found_there, passed (Met b v), rw (fields_of word k read) (worked_busy k on), inl refl, l.apart)

  -- ---- the hand
  lent : LentBy f owner v.holdings
  lent = let here = l.lent in record { others = here.others; refs = ap (λ (q : PortValue). q.holdings.refs) l.same ∙ here.refs }

  pub held : 0 < refs_to f v.holdings.refs
  held = lent_held f owner v.holdings lent

  pub owned : ref_owner f v.holdings ≡ owners.Of owner
  owned = lent_owner f owner v.holdings lent

  pub looking : (w : ℕ) → still_looking f w v.holdings.looking ≡ b.holdings.looking
  unfolding kept_of
  looking w = ap (λ xs. still_looking f w xs) (ap (λ (q : PortValue). q.holdings.looking) l.same ∙ l.looked) ∙ sym l.looked

  -- the untyped reference in hand is one more than its type counts
  pub may_lock_it : (k : KindWord) → kind_read word ≡ Some k → IsFree k → MayLock v.post.machine f k (locked_kind k) v.holdings
  may_lock_it k read is =
      record {
        live = is.live;
        table = is.table;
        unlocked = is.unlocked;
        counted = is.some;
        below = subst (λ (q : PortValue). k.number < q.post.machine.limit) (sym l.same)
            (type_is_below b.post.machine b.post.vcpu b.holdings f word k l.frame l.look.finds (fields_of word k read) is.live (lent_held f owner b.holdings l.lent));
        left = refl;
        in_hand = held;
      }
