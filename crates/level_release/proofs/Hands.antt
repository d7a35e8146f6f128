-- Tables that are released, as what is in hand for them: the innermost one, and a hand that is another one then.
use Rattle.std.proofs.Common.{◌≡◌, ℕ, ◌≤◌, Bool, true, false, List, [], ◌∷◌, length, Option, Some, None, refl, sym, ap, ◌∙◌, subst, arith}
use Rattle.xp_words.specs.Machine.{IsMachine}
use Rattle.xp_words.specs.Places.{Sizes, sizes_of}
use Rattle.xp_board.specs.declared.holdings.Holdings.{Holdings}
use Rattle.xp_board.specs.declared.holdings.Liveness.{Liveness}
use Rattle.xp_board.specs.declared.holdings.Liveness.TheVariants.{Found, Since}
use Rattle.xp_board.specs.declared.holdings.Reference.{Reference}
use Rattle.xp_board.specs.declared.holdings.TypedReference.{TypedReference}
use Rattle.xp_board.specs.declared.holdings.Work.{Work}
use Rattle.xp_board.specs.Told.{Post, PortValue}
use Rattle.step_maker.specs.Holds.{Holds, MayWork}
use Rattle.partial_state.specs.declared.stack.TableWork.{TableWork}
use Rattle.partial_state.specs.Stacks.{IsStack}
use Rattle.table_releases.specs.Tops.{IsSince}
use Rattle.level_release.specs.Holding.{AreOwned, AreRefs, AreInRelease, AreOwnTyped, Empties, HoldsNow, IsAround, IsAroundAny, IsReleasedWork, RefFor, TypedIfOwn}

-- ---- works
pub record TopTable (z : Sizes) (made : ℕ) (inner : Option TableWork) (t : TableWork) (ts : List TableWork) (es : List Work) : Type 0 where
  pub work : Work
  pub others : List Work
  pub are : es ≡ work ∷ others
  pub is : IsReleasedWork z made t work
  pub inside : IsAroundAny t work inner
  pub around : AreInRelease z made (Some t) ts others

pub tables_top : (z : Sizes) (made : ℕ) (inner : Option TableWork) (t : TableWork) (ts : List TableWork) (es : List Work) → AreInRelease z made inner (t ∷ ts) es → TopTable z made inner t ts es
tables_top z made inner t ts [] are = absurd are
tables_top z made inner t ts (e ∷ es) are = record { work = e; others = es; are = refl; is = are.0; inside = are.1; around = are.2 }

pub tables_none : (z : Sizes) (made : ℕ) (inner : Option TableWork) (es : List Work) → AreInRelease z made inner [] es → es ≡ []
tables_none z made inner [] are = refl
tables_none z made inner (e ∷ es) are = absurd are

-- after more steps
work_later : {z : Sizes} {a b : ℕ} {t : TableWork} {e : Work} → a ≤ b → IsReleasedWork z a t e → IsReleasedWork z b t e
work_later more is =
    record { inside = is.inside; frame = is.frame; kind = is.kind; unmarked = is.unmarked; recorded = is.recorded; work = is.work; closing = is.closing; earlier = omega (arith, is.earlier, more) }

pub tables_later : (z : Sizes) (a b : ℕ) (inner : Option TableWork) (ts : List TableWork) (es : List Work) → a ≤ b → AreInRelease z a inner ts es → AreInRelease z b inner ts es
tables_later z a b inner [] [] more are = tt
tables_later z a b inner [] (e ∷ es) more are = absurd are
tables_later z a b inner (t ∷ ts) [] more are = absurd are
tables_later z a b inner (t ∷ ts) (e ∷ es) more are = (work_later more are.0, are.1, tables_later z a b (Some t) ts es more are.2)

-- the one inside them is gone, or only more or fewer of its entries are done with
around_done : {t : TableWork} {e : Work} {g : TableWork} (n : ℕ) → IsAround t e g → IsAround t e (record g { done = n })
around_done n is = record { settled = is.settled; word = is.word; seen = is.seen; asks = is.asks; inside = is.inside }

pub tables_outer : (z : Sizes) (made : ℕ) (g : TableWork) (ts : List TableWork) (es : List Work) → AreInRelease z made (Some g) ts es → AreInRelease z made None ts es
tables_outer z made g [] [] are = tt
tables_outer z made g [] (e ∷ es) are = absurd are
tables_outer z made g (t ∷ ts) [] are = absurd are
tables_outer z made g (t ∷ ts) (e ∷ es) are = (are.0, tt, are.2)

pub tables_done : (z : Sizes) (made : ℕ) (g : TableWork) (n : ℕ) (ts : List TableWork) (es : List Work) → AreInRelease z made (Some g) ts es → AreInRelease z made (Some (record g { done = n })) ts es
tables_done z made g n [] [] are = tt
tables_done z made g n [] (e ∷ es) are = absurd are
tables_done z made g n (t ∷ ts) [] are = absurd are
tables_done z made g n (t ∷ ts) (e ∷ es) are = (are.0, around_done n are.1, are.2)

-- around another one nothing is noted as unsettled
pub around_settled : (z : Sizes) (made : ℕ) (g : TableWork) (ts : List TableWork) (es : List Work) → AreInRelease z made (Some g) ts es → (top : Work) (others : List Work) → es ≡ top ∷ others → top.unsettled ≡ None
around_settled z made g [] [] are top others is = absurd cc
around_settled z made g [] (e ∷ es) are top others is = absurd are
around_settled z made g (t ∷ ts) [] are top others is = absurd are
around_settled z made g (t ∷ ts) (e ∷ es) are top others is = let same : e ≡ top = cc in subst (λ (y : Work). y.unsettled ≡ None) same are.1.settled

-- ---- references
pub record TopRef (f : ℕ) (P : List Reference → Type 0) (xs : List Reference) : Type 0 where
  pub ref : Reference
  pub others : List Reference
  pub frame : ref.frame ≡ f
  pub are : xs ≡ ref ∷ others
  pub around : P others

pub refs_top : (own : Bool) (f : ℕ) (P : List Reference → Type 0) (xs : List Reference) → own ≡ false → RefFor own f P xs → TopRef f P xs
refs_top true f P xs off r = absurd cc
refs_top false f P xs off r = record { ref = r.0; others = r.1; frame = r.2; are = r.3; around = r.4 }

pub refs_own : (own : Bool) (f : ℕ) (P : List Reference → Type 0) (xs : List Reference) → own ≡ true → RefFor own f P xs → P xs
refs_own true f P xs on r = r
refs_own false f P xs on r = absurd cc

pub record TopTyped (made f : ℕ) (P : List TypedReference → Type 0) (ys : List TypedReference) : Type 0 where
  pub ref : TypedReference
  pub others : List TypedReference
  pub frame : ref.frame ≡ f
  pub since : IsSince made ref.live
  pub are : ys ≡ ref ∷ others
  pub around : P others

pub typed_top : (own : Bool) (made f : ℕ) (P : List TypedReference → Type 0) (ys : List TypedReference) → own ≡ true → TypedIfOwn own made f P ys → TopTyped made f P ys
typed_top true made f P ys on r = record { ref = r.0; others = r.1; frame = r.2; since = r.3; are = r.4; around = r.5 }
typed_top false made f P ys on r = absurd cc

pub typed_lent : (own : Bool) (made f : ℕ) (P : List TypedReference → Type 0) (ys : List TypedReference) → own ≡ false → TypedIfOwn own made f P ys → P ys
typed_lent true made f P ys off r = absurd cc
typed_lent false made f P ys off r = r

since_later : (a b : ℕ) (l : Liveness) → a ≤ b → IsSince a l → IsSince b l
since_later a b (Since n) more low = omega (arith, more, low)
since_later a b Found more low = absurd low

typed_for_later : (own : Bool) (a b f : ℕ) (P Q : List TypedReference → Type 0) (ys : List TypedReference) → a ≤ b → ((xs : List TypedReference) → P xs → Q xs) → TypedIfOwn own a f P ys → TypedIfOwn own b f Q ys
typed_for_later true a b f P Q ys more on r = (r.0, r.1, r.2, since_later a b r.0.live more r.3, r.4, on r.1 r.5)
typed_for_later false a b f P Q ys more on r = on ys r

pub typed_later : (a b : ℕ) (ts : List TableWork) (ys : List TypedReference) → a ≤ b → AreOwnTyped a ts ys → AreOwnTyped b ts ys
typed_later a b [] ys more are = are
typed_later a b (t ∷ ts) ys more are = typed_for_later t.own a b t.frame (AreOwnTyped a ts) (AreOwnTyped b ts) ys more (λ xs rest. typed_later a b ts xs more rest) are

-- ---- the whole

module _ {h : Holdings} {v : PortValue} (w : PortValue) {ts : List TableWork} (us : List TableWork) (rs : List Reference) (ys : List TypedReference) (es : List Work) (s : Empties h v ts)
    (holds : Holds v w (record v.holdings { refs = rs; typed = ys; works = es })) where
  same_post : w.post ≡ v.post
  same_post = ap (λ (q : PortValue). q.post) holds

  hand_by : HoldsNow w (record h { refs = w.holdings.refs; typed = w.holdings.typed; works = w.holdings.works })
  hand_by =
      holds ∙ ap (λ (q : PortValue). record q { holdings = record q.holdings { refs = rs; typed = ys; works = es } }) s.hand
      ∙ ap (λ (p : Post). record { post = p; holdings = record h { refs = rs; typed = ys; works = es; steps = [] }; told = None }) (sym same_post)
      ∙ ap (λ xs. record { post = w.post; holdings = record h { refs = xs; typed = ys; works = es; steps = [] }; told = None }) (sym (ap (λ (q : PortValue). q.holdings.refs) holds))
      ∙ ap (λ xs. record { post = w.post; holdings = record h { refs = w.holdings.refs; typed = xs; works = es; steps = [] }; told = None }) (sym (ap (λ (q : PortValue). q.holdings.typed) holds))
      ∙ ap (λ xs. record { post = w.post; holdings = record h { refs = w.holdings.refs; typed = w.holdings.typed; works = xs; steps = [] }; told = None }) (sym (ap (λ (q : PortValue). q.holdings.works) holds))

  -- the hand is another one, of these tables
  pub hands_by : IsStack us → AreInRelease (sizes_of v.post.machine) (length w.holdings.steps) None us es → AreRefs h.refs us rs → AreOwnTyped (length w.holdings.steps) us ys →
      AreOwned (sizes_of v.post.machine) s.owner us w.holdings → Empties h w us
  hands_by stack tables refs types owned =
      record {
        works = s.works;
        typed = s.typed;
        looking = s.looking;
        stack = stack;
        tables =
            subst (λ (p : Post). AreInRelease (sizes_of p.machine) (length w.holdings.steps) None us w.holdings.works) (sym same_post)
            (subst (λ xs. AreInRelease (sizes_of v.post.machine) (length w.holdings.steps) None us xs) (sym (ap (λ (q : PortValue). q.holdings.works) holds)) tables);
        refs = subst (λ xs. AreRefs h.refs us xs) (sym (ap (λ (q : PortValue). q.holdings.refs) holds)) refs;
        types = subst (λ xs. AreOwnTyped (length w.holdings.steps) us xs) (sym (ap (λ (q : PortValue). q.holdings.typed) holds)) types;
        owner = s.owner;
        owned = subst (λ (p : Post). AreOwned (sizes_of p.machine) s.owner us w.holdings) (sym same_post) owned;
        hand = hand_by;
      }

-- no table is left
pub hands_none : {h : Holdings} {w : PortValue} → Empties h w [] → HoldsNow w h
hands_none {h} {w} s =
    s.hand ∙ ap (λ xs. record { post = w.post; holdings = record h { refs = xs; typed = w.holdings.typed; works = w.holdings.works; steps = [] }; told = None }) s.refs
    ∙ ap (λ xs. record { post = w.post; holdings = record h { typed = xs; works = w.holdings.works; steps = [] }; told = None }) (s.types ∙ sym s.typed)
    ∙ ap (λ xs. record { post = w.post; holdings = record h { works = xs; steps = [] }; told = None }) (tables_none (sizes_of w.post.machine) (length w.holdings.steps) None w.holdings.works s.tables ∙ sym s.works)

-- what the vCPU may do, and the old words, stay as they were
module _ {h : Holdings} {v w : PortValue} {ts us : List TableWork} (a : Empties h v ts) (b : Empties h w us) where
  pub hands_may : w.post ≡ v.post → MayWork v → MayWork w
  hands_may post m =
      record {
        running = ap (λ (q : PortValue). q.holdings.run) b.hand ∙ sym (ap (λ (q : PortValue). q.holdings.run) a.hand) ∙ m.running;
        no_walk = ap (λ (q : PortValue). q.holdings.walk) b.hand ∙ sym (ap (λ (q : PortValue). q.holdings.walk) a.hand) ∙ m.no_walk;
        machine = subst (λ (p : Post). IsMachine p.machine) (sym post) m.machine;
      }

  pub hands_old : w.holdings.old0 ≡ v.holdings.old0
  hands_old = ap (λ (q : PortValue). q.holdings.old0) b.hand ∙ sym (ap (λ (q : PortValue). q.holdings.old0) a.hand)
