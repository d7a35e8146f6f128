use Rattle.std.proofs.Common.{◌≡◌, ℕ, Option, Some, None, refl, arith}
use Rattle.std.proofs.lemmas.Bool.Decides.{nat_tests}
use Rattle.xp_words.specs.declared.context.ContextWord.{ContextWord}
use Rattle.xp_words.specs.declared.context.LdtBase.{LdtBase}
use Rattle.xp_words.specs.ContextWords.{context_read, context_write, IsContext, IsFrame, ldt_read, ldt_write, IsLdtBase}

frame_read-write : (f : Option ℕ) → IsFrame f → context_read (context_write (record { frame = f })) ≡ Some (record { frame = f })
unfolding context_read context_write
frame_read-write None h = refl
frame_read-write (Some f) h = grind (arith, nat_tests)

pub context_read-write : (x : ContextWord) → IsContext x → context_read (context_write x) ≡ Some x
unfolding IsContext
context_read-write x h = frame_read-write x.frame h

pub context_write-read : (w : ℕ) (x : ContextWord) → context_read w ≡ Some x → IsContext x × (context_write x ≡ w)
unfolding context_read context_write IsContext
context_write-read w x h = grind (arith, nat_tests)

pub ldt_read-write : (x : LdtBase) → IsLdtBase x → ldt_read (ldt_write x) ≡ Some x
unfolding ldt_read ldt_write
ldt_read-write x h = grind (arith, nat_tests)

pub ldt_write-read : (w : ℕ) (x : LdtBase) → ldt_read w ≡ Some x → IsLdtBase x × (ldt_write x ≡ w)
unfolding ldt_read ldt_write
ldt_write-read w x h = grind (arith, nat_tests)
