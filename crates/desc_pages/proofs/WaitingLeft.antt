-- A descriptor page that waits for a flush is left: with which word, and what is in hand then.
use Rattle.std.proofs.Common.{◌≡◌, ℕ, true, None, refl, ap, ◌∙◌, subst}
use Rattle.xp_words.specs.KindWords.{kind_write}
use Rattle.xp_words.specs.declared.kind.KindWord.{KindWord}
use Rattle.xp_words.specs.declared.kind.PageType.TheVariants.{Desc}
use Rattle.xp_words.specs.declared.place.Place.TheVariants.{Kind}
use Rattle.xp_words.specs.declared.reply.Pause.{Pause}
use Rattle.xp_words.specs.declared.reply.Refusal.{Refusal}
use Rattle.xp_words.specs.declared.reply.Stop.{Stop}
use Rattle.xp_words.specs.declared.reply.Stop.TheVariants.{Refused, Paused}
use Rattle.xp_board.specs.declared.holdings.OwnerFound.TheVariants as owners
use Rattle.xp_board.specs.declared.step.Act.TheVariants.{Store}
use Rattle.xp_board.specs.declared.step.StepKind.TheVariants as kinds
use Rattle.xp_board.specs.Hands.{without_work}
use Rattle.xp_board.specs.Readings.{domain_of}
use Rattle.xp_board.specs.Told.{PortValue}
use Rattle.step_maker.specs.Holds.{FlushedHolds, Holds, quiet}
use Rattle.step_maker.specs.Moves.{Came, Moves}
use Rattle.step_maker.proofs.Coming.{moves_came}
use Rattle.step_maker.specs.Visits.{Does}
use Rattle.frame_words.specs.Freeing.{gave}
use Rattle.kind_words.specs.Kinds.{MayLeave, left, partial_kind}
use Rattle.kind_words.proofs.Leaving as leaving
use Rattle.frame_types.specs.Found.{DeadBy}
use Rattle.frame_types.specs.Leaving.{GivesBack, ServesType, WaitsFrom}
use Rattle.frame_types.proofs.Left.{here, kept_may, no_typed, no_works, own_owner}
use Rattle.frame_types.proofs.Serving.{store_serves}
use Rattle.kept_marks.specs.Marks as marks
use Rattle.desc_pages.specs.Pages.{IsDescWaiting, LeavesWaiting}

-- a refusal leaves it dead
pub refused_leaves : {v d : PortValue} {f owner stamp : ℕ} {stop : Stop} {x : Refusal} → stop ≡ Refused x → Came v d → ServesType v d f Desc → GivesBack v d f Desc true → Does v d (λ vs. DeadBy f Desc vs) → LeavesWaiting v d f owner stamp stop
refused_leaves {owner = owner} {stamp = stamp} is came serves gives visits =
    rw is (record { came = came; serves = λ u ds before. serves u owner ds before; hand = λ b waits. gives b owner stamp waits; course = visits })

-- ---- a pause puts its type count into its mark
abbrev kept_kind : ℕ → KindWord
kept_kind stamp = partial_kind Desc true true 0 stamp

module _ (b v : PortValue) (f owner stamp : ℕ) (w : WaitsFrom b v f owner Desc true stamp) where
  pub desc_may : MayLeave v f (kept_kind stamp)
  desc_may = kept_may b v f owner Desc stamp w

  kept_gone : (d : PortValue) → owner ≡ domain_of v.post.machine v.post.vcpu → Holds v d (left v f (kept_kind stamp)) → FlushedHolds b d (gave f b.holdings)
  kept_gone d mine holds =
      ap quiet holds
      ∙ ap (λ k. quiet (record v { holdings = k }))
      (leaving.left_kept v f Desc w.waits.work (here b v f owner Desc true stamp w) true 0 stamp w.waits.works.in_work desc_may.is (own_owner b v f owner Desc stamp w ∙ ap (λ o. owners.Of o) mine))
      ∙ ap (λ xs. quiet (record v { holdings = record v.holdings { typed = xs; works = without_work f v.holdings.works } })) (no_typed b v f owner Desc stamp w)
      ∙ ap (λ ys. quiet (record v { holdings = record v.holdings { typed = b.holdings.typed; works = ys } })) (no_works b v f owner Desc true stamp w)
      ∙ ap (λ (q : PortValue). quiet (record q { holdings = record q.holdings { typed = b.holdings.typed; works = b.holdings.works } })) w.waits.works.hand

pub paused_leaves : {v d : PortValue} {f owner stamp y : ℕ} {stop : Stop} {x : Pause} {k : KindWord} → stop ≡ Paused x → k ≡ kept_kind stamp → owner ≡ domain_of v.post.machine v.post.vcpu → IsDescWaiting v f owner stamp →
    Moves v d (Kind f) (Store (kind_write k)) kinds.Kind None y → Holds v d (left v f k) → LeavesWaiting v d f owner stamp stop
paused_leaves {v = v} {d = d} {f = f} {owner = owner} {stamp = stamp} {y = y} is spelled mine waiting store holds =
    let w = waiting.1 in
    let step = subst (λ l. Moves v d (Kind f) (Store (kind_write l)) kinds.Kind None y) spelled store in
    let hand = subst (λ l. Holds v d (left v f l)) spelled holds in
    rw is
    (record {
      came = moves_came v d (Kind f) (Store (kind_write (kept_kind stamp))) kinds.Kind None y step;
      serves = λ u ds before. store_serves u v d f owner Desc ds before w.waits.work (kept_kind stamp) y (here waiting.0 v f owner Desc true stamp w) w.waits.works.in_work w.waits.works.kind (desc_may waiting.0 v f owner stamp w).is refl step;
      hand = λ b from. kept_gone b v f owner stamp from d mine hand;
      course = marks.own mine (y, step);
    })
