-- What a page is left with, by the answer of its words.
use Rattle.std.proofs.Common.{◌≡◌, ℕ, ◌≤◌, ◌<◌, false, true, [], length, None, refl, sym, ap, ◌∙◌, subst, arith}
use Rattle.xp_words.specs.Machine.{IsMachine}
use Rattle.xp_words.specs.declared.place.Place.TheVariants.{Cell, Clock, Kind}
use Rattle.xp_words.specs.declared.kind.KindWord.{KindWord}
use Rattle.xp_words.specs.declared.kind.PageType.TheVariants.{Desc}
use Rattle.xp_words.specs.KindWords.{kind_write}
use Rattle.xp_board.specs.declared.step.Act.TheVariants.{Load, Store}
use Rattle.xp_board.specs.declared.step.StepKind.TheVariants as kinds
use Rattle.xp_board.specs.Told.{PortValue, is_telling, told_word}
use Rattle.xp_board.proofs.Sums.{when_eq}
use Rattle.step_maker.specs.Holds.{Holds, MayWork, Same}
use Rattle.step_maker.specs.Moves.{Came, Moves}
use Rattle.step_maker.specs.Plain.{Leaves}
use Rattle.step_maker.proofs.Coming.{came_trans, moves_came}
use Rattle.step_maker.specs.Answers.{Serves}
use Rattle.step_maker.specs.Asked.{of_back}
use Rattle.step_maker.proofs.Visiting.{does_came}
use Rattle.flush_words.proofs.Lasting.{came_longer}
use Rattle.frame_words.specs.Freeing.{Puts, gave}
use Rattle.frame_words.specs.Plain.{put}
use Rattle.frame_words.specs.Refs.{MayPut}
use Rattle.kind_words.specs.Kinds.{MayLeave, dead_kind, left, live_kind}
use Rattle.desc_pages.specs.Fixing.{Fixes, Unfixes}
use Rattle.desc_pages.specs.Pages.{TakenFrom, Validates, fixed, of_desc, unfixed}
use Rattle.xp_words.specs.declared.reply.Refusal.TheVariants as refusals
use Rattle.xp_words.specs.declared.reply.Stop.TheVariants.{Refused}
use Rattle.std.proofs.Common.{Ok, Err}
use Rattle.desc_pages.proofs.AllWords.{still_works}
use Rattle.desc_pages.proofs.Validating.{dead_gives, dead_hand, dead_may, dead_validates, live_may, live_validates, page_work}

-- with another name of the word
pub moved_as : (v d : PortValue) (f x : ℕ) (k l : KindWord) → k ≡ l → Moves v d (Kind f) (Store (kind_write k)) kinds.Kind None x → Moves v d (Kind f) (Store (kind_write l)) kinds.Kind None x
moved_as v d f x k l is m = subst (λ y. Moves v d (Kind f) (Store (kind_write y)) kinds.Kind None x) is m

pub held_as : (v d : PortValue) (f : ℕ) (k l : KindWord) → k ≡ l → Holds v d (left v f k) → Holds v d (left v f l)
held_as v d f k l is h = subst (λ y. Holds v d (left v f y)) is h

module _ (b v a : PortValue) (f owner : ℕ) (t : TakenFrom b v f owner) where
  -- ---- all its words are fixed
  module _ (so : Fixes v a f 512 t.works.work b.holdings.works) where
    pub fixed_works : MayWork v → MayWork a
    fixed_works may = still_works v a f 512 t.works.work b.holdings.works (page_work b v f owner t) so may

    pub fixed_may : MayWork v → MayLeave a f (live_kind Desc 1)
    fixed_may may = live_may b v f owner t a 512 so.work so.page so.hand refl (fixed_works may)

    pub fixed_validates : (w : PortValue) (x : ℕ) → Moves a w (Kind f) (Store (kind_write (live_kind Desc 1))) kinds.Kind None x → Holds a w (left a f (live_kind Desc 1)) → Validates b v w f owner (Ok tt)
    fixed_validates w x store holds =
        live_validates b v f owner t a 512 so.work so.page so.hand refl (λ u ds before. so.serves u (of_desc f owner) ds before (when_eq f f refl) refl) (does_came v a _ so.visits) w x store holds
        (fixed a t.works.work x (subst (λ ws. Fixes v a f 512 t.works.work ws) t.none so) store)

  -- ---- one has no fixed form
  module _ (i word : ℕ) (so : Unfixes v a f i word t.works.work b.holdings.works) (c : PortValue) (clock : ℕ) (look : Moves a c Clock Load kinds.Look None clock) (same : Same a c) where
    came_a : Came v a
    came_a = came_trans v so.at a (does_came v so.at _ so.fixes.visits) (moves_came so.at a (Cell f i) Load kinds.Look None word so.looks)

    bare : so.work.recorded ≡ 0
    bare = so.recorded ∙ t.works.recorded

    early : so.work.since ≤ length a.holdings.steps
    early = let is = so.since in let more = came_longer v a came_a in let first = t.works.works.earlier in omega (arith, is, more, first)

    pub bad_may : MayLeave c f (dead_kind Desc false clock)
    bad_may = dead_may b v f owner t a i so.work so.page so.hand c clock look same bare early

    module _ (d : PortValue) (x : ℕ) (store : Moves c d (Kind f) (Store (kind_write (dead_kind Desc false clock))) kinds.Kind None x) (holds : Holds c d (left c f (dead_kind Desc false clock))) where
      pub bad_works : MayWork v → MayWork d
      bad_works may =
          let gone = dead_hand b v f owner t a i so.work so.page so.hand c clock look same bare early d x store holds in
          let came_in = t.works.works.hand in
          record {
            running = ap (λ (q : PortValue). q.holdings.run) gone ∙ sym (ap (λ (q : PortValue). q.holdings.run) came_in) ∙ may.running;
            no_walk = ap (λ (q : PortValue). q.holdings.walk) gone ∙ sym (ap (λ (q : PortValue). q.holdings.walk) came_in) ∙ may.no_walk;
            machine = subst (λ (q : PortValue). IsMachine q.post.machine) (sym gone) (subst (λ (q : PortValue). IsMachine q.post.machine) came_in may.machine);
          }

      pub bad_gives : MayPut f d.holdings
      bad_gives = dead_gives b v f owner t a i so.work so.page so.hand c clock look same bare early d x store holds

      pub bad_validates : (w : PortValue) → i < 512 → Holds d w (gave f d.holdings) → Serves d w (of_back f) [] → Puts d w f → (is_telling d ≡ true → Leaves w (put f (told_word d))) → Validates b v w f owner (Err (Refused (refusals.BadDescriptor f i word)))
      bad_validates w low back gives puts plain = dead_validates b v f owner t a i so.work so.page so.hand c clock look same bare early d x store holds w back gives i word so came_a
          (unfixed a t.works.work i word low (subst (λ ws. Unfixes v a f i word t.works.work ws) t.none so)
          (record { seen = c; dead = d; clock = clock; old = x; looks = look; stores = store; gives = record { found = puts; plain = plain } }))
