-- Marks that record an entry of a table in work, or take it back into the hand.
use Rattle.std.proofs.Common.{◌≡◌, ◌≢◌, ℕ, ◌+◌, ◌<◌, false, [], Some, refl, sym, ◌∙◌, ap, subst, arith, IsTrue, inl, inr}
use Rattle.std.proofs.lemmas.Bool.{cases_eq}
use Rattle.xp_words.specs.declared.kind.PageType.{PageType}
use Rattle.xp_words.specs.declared.entry.Demand.TheVariants.{Typed}
use Rattle.xp_words.specs.PageTypes.{is_table}
use Rattle.xp_words.specs.KindWords.{kind_fields}
use Rattle.xp_words.specs.Machine.{Machine}
use Rattle.xp_words.specs.declared.place.Place.{Place}
use Rattle.xp_words.specs.Places.{sizes_of}
use Rattle.xp_board.specs.declared.holdings.Holdings.{Holdings}
use Rattle.xp_board.specs.declared.holdings.Work.{Work}
use Rattle.xp_board.specs.Lists.{first_by, EachOf}
use Rattle.xp_board.specs.Readings.{kind_at}
use Rattle.xp_board.specs.Hands.{refs_to, works_on, work_on, hand, typed_hand, changed_work}
use Rattle.xp_board.specs.Recorded.{held, held_of, entry_demand, names, names_typed, entries, recorded_in, recorded_number, HasType, TypesAgree}
use Rattle.xp_board.specs.Sound.{HeldAlone, Sound}
use Rattle.xp_board.proofs.ListChanges.{first_by-changed_here, first_by-changed_other}
use Rattle.count_rule.proofs.Twins.{EachTwo, EachTwo-changed_at, EachTwo-times, LikeWork}
use Rattle.xp_board.proofs.Works.{held_mine}
use Rattle.count_rule.proofs.CountLaw.{counts_law, each_vcpu}
use Rattle.count_rule.proofs.PartLaws.{alone_law, map_law, works_law, idle_fewer}
use Rattle.count_rule.proofs.Quiet.{held_still, is_closing_at, works_spared}
use Rattle.count_rule.proofs.Outcome.{Outcome}
use Rattle.xp_board.proofs.WorkFacts.{works_facts, work_word}

no_work : (f : ℕ) (e : Work) → work_on f [] ≡ Some e → ⊥
unfolding first_by
no_work f e k = cc

-- ---- one entry more, or one less
module _ (n : Machine) (s : ℕ) (m : Place → ℕ) (h b : ℕ → Holdings) (vcpu : s < (sizes_of n).vcpus) (others : (t : ℕ) → t ≢ s → b t ≡ h t) (sound : Sound n m h) (f : ℕ) (e : Work) (here : work_on f (h s).works ≡ Some e) (change : Work → Work) where
  -- how the hand moves
  pub record MarkMove : Type 0 where
    pub works : (b s).works ≡ changed_work f change (h s).works
    pub frames : (y : Work) → (change y).frame ≡ y.frame
    pub words : (y : Work) → (change y).word ≡ y.word
    pub table : IsTrue (is_table (kind_fields e.word).kind)
    pub unmarked : (kind_fields e.word).unflushed ≡ false
    pub locks : (b s).locks ≡ (h s).locks
    pub ending : (b s).ending ≡ (h s).ending
    pub claimed : (b s).claimed ≡ (h s).claimed
    pub raised : (b s).raised ≡ (h s).raised
    pub credits : (b s).credits ≡ (h s).credits
    pub cache : (b s).cache ≡ (h s).cache
    pub walk : (b s).walk ≡ (h s).walk
    pub cold : (b s).cold ≡ (h s).cold
    pub spares : (g : ℕ) → IsTrue (is_closing_at g (h s)) → 0 < refs_to g (h s).refs → 0 < refs_to g (b s).refs
    -- what goes out of the hand is recorded, and the other way round
    pub refs : (g : ℕ) → entries (names g) (sizes_of n) m b + hand g (b s) ≡ entries (names g) (sizes_of n) m h + hand g (h s)
    pub types : (g : ℕ) → entries (names_typed g) (sizes_of n) m b + typed_hand g (b s) ≡ entries (names_typed g) (sizes_of n) m h + typed_hand g (h s)
    pub last : (i g : ℕ) (t : PageType) → i < (change e).recorded → entry_demand m f i ≡ Typed g t → (kind_at m g).kind ≡ t
    pub typed : EachOf (λ y. HasType m y.frame y.kind) (b s).typed

  pub change_like : (x y : Work) → (change x).frame ≡ x.frame → (change x).word ≡ x.word → (kind_fields x.word).unflushed ≡ false → LikeWork x (change x)
  change_like x y f w u = record { frame = f; word = w; recorded = λ k. absurd (cc) }

  module _ (works : (b s).works ≡ changed_work f change (h s).works) (frames : (y : Work) → (change y).frame ≡ y.frame) (words : (y : Work) → (change y).word ≡ y.word)
      (unmarked : (kind_fields e.word).unflushed ≡ false) where
    pub works_like : EachTwo LikeWork (h s).works (b s).works
    works_like =
        rw works
        (EachTwo-changed_at LikeWork (λ y. y.frame) f change (h s).works (λ y. record { frame = refl; word = refl; recorded = λ k. refl })
        (λ y k. let i : Some y ≡ Some e = sym k ∙ here in let j : y ≡ e = cc in change_like y y (frames y) (words y) (ap (λ z. (kind_fields z.word).unflushed) j ∙ unmarked)))

    pub works_same : (g : ℕ) → works_on g (b s).works ≡ works_on g (h s).works
    works_same g = EachTwo-times LikeWork (λ y. y.frame) g _ _ (λ y z r. r.frame) works_like

    pub mark_alone : (b s).locks ≡ (h s).locks → (b s).ending ≡ (h s).ending → (b s).claimed ≡ (h s).claimed → HeldAlone n m b
    mark_alone locks ending claimed =
        alone_law n s m m h b vcpu others (λ g. let k = works_same g in omega arith) (λ g. rw locks refl) (λ g. rw (ending, claimed) refl) sound.alone

    pub work_after : work_on f (b s).works ≡ Some (change e)
    work_after = rw works (first_by-changed_here (λ y. y.frame) f change (h s).works e frames here)

    recorded_other : (g : ℕ) → g ≢ f → recorded_in (b s).works g ≡ recorded_in (h s).works g
    unfolding recorded_in
    recorded_other g off = rw works (ap recorded_number (first_by-changed_other (λ y. y.frame) g f change (h s).works frames off))

    pub mark_held_other : (g : ℕ) → g ≢ f → held (sizes_of n) m b g ≡ held (sizes_of n) m h g
    mark_held_other g off = held_still n s m m h b vcpu others g refl (recorded_other g off)

    pub mark_held_here : HeldAlone n m b → IsTrue (is_table (kind_fields e.word).kind) → held (sizes_of n) m b f ≡ (change e).recorded
    unfolding held_of
    mark_held_here alone t = held_mine n m b alone f s (change e) vcpu work_after ∙ rw (work_word n m h s f e (works_facts n m h s f e sound vcpu here), t) refl

  module _ (move : MarkMove) where
    alone : HeldAlone n m b
    alone = mark_alone move.works move.frames move.words move.unmarked move.locks move.ending move.claimed

    mark_entries : (f2 i g : ℕ) (t : PageType) → i < held (sizes_of n) m b f2 → entry_demand m f2 i ≡ Typed g t → (kind_at m g).kind ≡ t
    mark_entries f2 i g t l d =
        elim (cases_eq f2 f) [
          | inl at ↦
              let k : i < held (sizes_of n) m b f = subst (λ y. i < held (sizes_of n) m b y) at l in
              let r = mark_held_here move.works move.frames move.words move.unmarked alone move.table in
              move.last i g t (omega arith) (ap (λ y. entry_demand m y i) (sym at) ∙ d)
          | inr off ↦ sound.counts.kinds.entries f2 i g t (rw (mark_held_other move.works move.frames move.words move.unmarked f2 off) at l) d
        ]

    mark_types : TypesAgree (sizes_of n) m b
    mark_types =
        record {
          entries = mark_entries;
          contexts = sound.counts.kinds.contexts;
          typed = each_vcpu n s m m h b vcpu others (λ t u. EachOf (λ y. HasType m y.frame y.kind) u.typed) move.typed (λ t l off. sound.counts.kinds.typed t l);
          locks = each_vcpu n s m m h b vcpu others (λ t u. EachOf (λ y. HasType m y.frame (Some y.kind)) u.locks) (rw move.locks (sound.counts.kinds.locks s vcpu))
              (λ t l off. sound.counts.kinds.locks t l);
        }

    pub marked_outcome : Outcome n m b
    marked_outcome =
        record {
          spelled = sound.spelled;
          counts =
              counts_law n s m m h b vcpu others
              (record {
                refs = λ g. let k = move.refs g in omega arith;
                types = λ g. let k = move.types g in omega arith;
                kinds = mark_types;
                pages = λ d l. rw move.credits refl;
              })
              sound.counts;
          alone = alone;
          works =
              works_law n s m m h b vcpu others
              (works_spared n s m m h b vcpu others (works_like move.works move.frames move.words move.unmarked) move.spares sound.alone (sound.works s vcpu))
              sound.works;
          stamped = sound.stamped;
          idle =
              idle_fewer n s m m h b vcpu others (λ v. refl) (λ k. let none : work_on f [] ≡ Some e = rw k.works at here in absurd (no_work f e none)) move.cold
              (λ k. move.cache ∙ k) (λ k. move.walk ∙ k) sound.idle;
          map = map_law n s m m h b vcpu others (λ g l. rw move.raised refl) sound.map;
        }
