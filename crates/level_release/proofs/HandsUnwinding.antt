-- Tables are left one after the other: from u on, of the tables ts, these are left to leave; in the end the outermost one is named.
use Rattle.std.proofs.Common.{◌≡◌, ◌≢◌, List, [], ◌∷◌, refl, sym, ap, ◌∙◌, subst}
use Rattle.xp_board.specs.Told.{PortValue}
use Rattle.xp_board.specs.declared.holdings.Holdings.{Holdings}
use Rattle.step_maker.specs.Holds.{MayWork}
use Rattle.step_maker.specs.Moves.{Came}
use Rattle.step_maker.proofs.Coming.{came_post, came_self, came_trans}
use Rattle.partial_state.specs.declared.stack.TableWork.{TableWork}
use Rattle.level_release.specs.Course.{LeftInside, one_less}
use Rattle.level_release.specs.Holding.{Empties, HoldsNow, IsReleasing, LeavesNamed, MayUnwind, StaysEmptying, named_hand, outermost_frame}
use Rattle.level_release.proofs.Hands.{hands_may, hands_old}

-- what is in hand then: nothing of them, or the tables that are left
abbrev pub LeftTo : Holdings → PortValue → List TableWork → List TableWork → Type 0
LeftTo h w ts [] = HoldsNow w (named_hand (outermost_frame ts) h)
LeftTo h w ts (r ∷ rs) = Empties h w (r ∷ rs) × (outermost_frame (r ∷ rs) ≡ outermost_frame ts)

pub record LeavingDown (u w : PortValue) (ts us : List TableWork) : Type 0 where
  pub came : Came u w
  pub hand : (h : Holdings) → Empties h u ts → LeftTo h w ts us

begins : {u : PortValue} (ts : List TableWork) → ts ≢ [] → (h : Holdings) → Empties h u ts → LeftTo h u ts ts
begins [] some h s = absurd (some refl)
begins (t ∷ ts) some h s = (s, refl)

pub leaving_begins : {u : PortValue} {ts : List TableWork} → ts ≢ [] → LeavingDown u u ts ts
leaving_begins {u} {ts} some = record { came = came_self u; hand = begins ts some }

-- ---- one table more was popped
module _ {u w : PortValue} {ts : List TableWork} {t : TableWork} {us all : List TableWork} (g : LeavingDown u w ts all) (popped : all ≡ t ∷ us) where
  now : {h : Holdings} → Empties h u ts → Empties h w (t ∷ us) × (outermost_frame (t ∷ us) ≡ outermost_frame ts)
  now {h} s = subst (λ xs. LeftTo h w ts xs) popped (g.hand h s)

  pub leaving_may : IsReleasing u ts → MayWork u → MayWork w
  leaving_may a may = hands_may a.1 (now a.1).0 (came_post u w g.came) may

  pub leaving_stands : IsReleasing u ts → IsReleasing w (t ∷ us)
  leaving_stands a = (a.0, (now a.1).0)

  pub leaving_last : MayUnwind u ts → us ≡ [] → MayUnwind w (t ∷ [])
  leaving_last a none =
      record {
        may = leaving_may a.stands a.may;
        stands = subst (λ xs. IsReleasing w (t ∷ xs)) none (leaving_stands a.stands);
        some = λ e. absurd cc;
        room = hands_old a.stands.1 (now a.stands.1).0 ∙ a.room;
      }

  module _ (x : PortValue) (came : Came w x) where
    -- it was the outermost one
    named : us ≡ [] → LeavesNamed w x (t ∷ []) → (h : Holdings) → Empties h u ts → HoldsNow x (named_hand (outermost_frame ts) h)
    named none leaves h s =
        let before = now s in subst (λ f. HoldsNow x (named_hand f h)) (ap (λ xs. outermost_frame (t ∷ xs)) (sym none) ∙ before.1) (leaves h (subst (λ xs. Empties h w (t ∷ xs)) none before.0))

    pub leaving_named : us ≡ [] → LeavesNamed w x (t ∷ []) → LeavingDown u x ts us
    leaving_named none leaves = record { came = came_trans u w x g.came came; hand = λ h s. subst (λ xs. LeftTo h x ts xs) (sym none) (named none leaves h s) }

    -- it was inside another one
    pub leaving_inside : {rs : List TableWork} → StaysEmptying w x (t ∷ us) rs → LeftInside w t us x rs → LeavingDown u x ts rs
    leaving_inside {rs} stands shape = record { came = came_trans u w x g.came came; hand = λ h s. by_shape us rs shape h (stands h (now s).0) (now s).1 }
      where
        same_named : (o : TableWork) (ks : List TableWork) → outermost_frame (one_less o ∷ ks) ≡ outermost_frame (o ∷ ks)
        same_named o [] = refl
        same_named o (k ∷ ks) = refl

        by_shape : (vs rs : List TableWork) → LeftInside w t vs x rs → (h : Holdings) → Empties h x rs → outermost_frame (t ∷ vs) ≡ outermost_frame ts → LeftTo h x ts rs
        by_shape [] rs shape h s is = absurd shape
        by_shape (o ∷ os) rs shape h s is = subst (λ xs. LeftTo h x ts xs) (sym shape.0) (subst (λ xs. Empties h x xs) shape.0 s, same_named o os ∙ is)

-- ---- each time there is one table less

pub leaving_done : {u w : PortValue} {ts us : List TableWork} → LeavingDown u w ts us → us ≡ [] → LeavesNamed u w ts
leaving_done {w} {ts} g none h s = subst (λ xs. LeftTo h w ts xs) none (g.hand h s)
