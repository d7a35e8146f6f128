-- The words of the LDT are made to name no page, the last word first; and the word that says where it is.
use Rattle.std.proofs.Common.{◌≡◌, ℕ, suc, ◌+◌, ◌-◌, ◌<◌, ◌^◌, [], ◌∷◌, ◌++◌, is_some, length, None, refl, sym, ap, ◌∙◌, subst, arith, lit<, inl, inr}
use Rattle.xp_words.specs.ContextWords.{IsLdtBase, ldt_write}
use Rattle.xp_words.proofs.ContextLaws.{ldt_read-write}
use Rattle.xp_words.specs.Machine.{IsMachine}
use Rattle.xp_words.specs.Places.{sizes_of}
use Rattle.xp_words.specs.declared.context.LdtBase.{LdtBase}
use Rattle.xp_words.specs.declared.place.Place.TheVariants.{Vcpu}
use Rattle.xp_board.specs.declared.holdings.Holdings.{Holdings}
use Rattle.xp_board.specs.declared.step.Act.TheVariants.{Store}
use Rattle.xp_board.specs.declared.step.StepKind.TheVariants as kinds
use Rattle.xp_board.specs.Acts.{left_by}
use Rattle.xp_board.specs.Spelling.{IsSpelling}
use Rattle.xp_board.specs.Told.{PortValue}
use Rattle.xp_board.proofs.Numbers.{vcpu_there}
use Rattle.xp_board.proofs.Sums.{when_found}
use Rattle.step_maker.specs.Holds.{MayWork, Same, still}
use Rattle.step_maker.specs.Moves.{May, Moves}
use Rattle.step_maker.proofs.Coming.{came_self, came_trans}
use Rattle.step_maker.specs.Answers.{Serves, SetsWord}
use Rattle.desc_pages.specs.Ldt.{UnnamesAll, more, none, unnamed_from}
use Rattle.desc_pages.specs.Names.{HoldsForPage, PutsPage}

-- ---- the words
pub unnames_none : (v : PortValue) → UnnamesAll v v 16
unnames_none v = record { came = came_self v; hand = refl; serves = λ u r ds before contexts. before; course = none }

module _ (v y : PortValue) (k : ℕ) (below : k < 16) (g : UnnamesAll v y (k + 1)) where
  pub unnamed_works : MayWork v → MayWork y
  unnamed_works may =
      record {
        running = ap (λ (q : PortValue). q.holdings.run) g.hand ∙ may.running;
        no_walk = ap (λ (q : PortValue). q.holdings.walk) g.hand ∙ may.no_walk;
        machine = subst (λ (q : PortValue). IsMachine q.post.machine) (sym g.hand) may.machine;
      }

  pub holds_none : v.holdings.works ≡ [] → HoldsForPage y None y.holdings.typed
  holds_none works = record { typed = refl; inside = tt; works = ap (λ (q : PortValue). q.holdings.works) g.hand ∙ works }

  pub unnames_more : (w : PortValue) → PutsPage y w (22 + k) None y.holdings.typed → UnnamesAll v w k
  unnames_more w puts =
      let longer : 16 - k ≡ suc (16 - (k + 1)) = omega (arith, below) in
      record {
        came = came_trans v y w g.came puts.came;
        hand = puts.hand ∙ g.hand;
        serves = λ u r ds before contexts.
            subst (λ m. Serves u w r (unnamed_from v.post.vcpu k m ++ ds)) (sym longer)
            (subst (λ s. Serves u w r (SetsWord s (22 + k) 0 ∷ (unnamed_from v.post.vcpu (k + 1) (16 - (k + 1)) ++ ds))) (ap (λ (q : PortValue). q.post.vcpu) g.hand)
            (puts.serves u r (unnamed_from v.post.vcpu (k + 1) (16 - (k + 1)) ++ ds) (g.serves u r ds before contexts) contexts));
        course = more k y w g.course puts.course;
      }

-- ---- the base
base_small : (b : LdtBase) → IsLdtBase b → ldt_write b < 2 ^ 64
unfolding ldt_write
base_small b is = let page = is.page in let entries = is.entries in omega (arith, page, entries)

pub may_put_base : (v : PortValue) (s x : ℕ) (b : LdtBase) → s ≡ v.post.vcpu → s < length v.post.machine.vcpu_domain → x ≡ ldt_write b → IsLdtBase b → MayWork v → May v (Vcpu s 7) (Store x) kinds.Context None
unfolding IsSpelling
may_put_base v s x b own real is valid may =
    subst (λ y. May v (Vcpu s 7) (Store y) kinds.Context None) (sym is)
    (record {
      place = vcpu_there (sizes_of v.post.machine) s 7 real (lit< tt);
      marked = tt;
      running = λ needs. may.running;
      spelling = (base_small b valid, ap is_some (ldt_read-write b valid));
      act = inr (inl (record { own = own; word = refl }));
    })

pub base_moves : (v w : PortValue) (s x old : ℕ) (b : LdtBase) → s ≡ v.post.vcpu → x ≡ ldt_write b → Moves v w (Vcpu s 7) (Store x) kinds.Context None old → Moves v w (Vcpu v.post.vcpu 7) (Store (ldt_write b)) kinds.Context None old
base_moves v w s x old b own is m =
    subst (λ t. Moves v w (Vcpu t 7) (Store (ldt_write b)) kinds.Context None old) own (subst (λ y. Moves v w (Vcpu s 7) (Store y) kinds.Context None old) is m)

pub base_hand : (v w : PortValue) (x old : ℕ) → Moves v w (Vcpu v.post.vcpu 7) (Store x) kinds.Context None old → Same v w
unfolding left_by
base_hand v w x old m = ap still m.to ∙ ap (λ (h : Holdings). still (record v { holdings = h })) (when_found v.post.vcpu v.post.vcpu _ _ refl)
