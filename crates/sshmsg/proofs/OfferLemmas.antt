-- A KEXINIT by its parts: the cookie, the ten lists, and what stands after them.

use Rattle.std.proofs.Common.{◌≡◌, ℕ, Bool, List, Result, Ok, Err, refl, subst}
use Rattle.sshwire.specs.declared.fault.WireFault.{WireFault}
use Rattle.sshwire.specs.TypeReadings.{◌>>=◌}
use Rattle.sshmsg.specs.MessageData.{KexInit, kexinit, KexInitData}
use Rattle.sshmsg.specs.Form.{bytes_at, form_at}
use Rattle.sshmsg.specs.Lists.{Ten, end_at, four_at, offer_with, ten_at, two_at}
use Rattle.sshmsg.specs.View.{Goes}

pub bind_bind : {A B C : Type 0} (r : Result A WireFault) (f : A → Result B WireFault) (g : B → Result C WireFault) → ((r >>= f) >>= g) ≡ (r >>= λ x. f x >>= g)
bind_bind (Ok x) f g = refl
bind_bind (Err e) f g = refl

kexinit_parts : (bytes : List ℕ) → form_at kexinit bytes
    ≡ (bytes_at 16 bytes >>= λ c. ten_at c.1 >>= λ l. end_at l.1 >>= λ f. Ok (KexInit (offer_with c.0 l.0 f.0), f.1))
unfolding kexinit ten_at four_at two_at
kexinit_parts bytes = simp bind_bind

pub no_cookie : (bytes : List ℕ) (fault : WireFault) → bytes_at 16 bytes ≡ Err fault → form_at kexinit bytes ≡ Err fault
no_cookie bytes fault e = rw (kexinit_parts bytes, e) refl

pub no_lists : (bytes cookie lists : List ℕ) (fault : WireFault) → bytes_at 16 bytes ≡ Ok (cookie, lists) → ten_at lists ≡ Err fault → form_at kexinit bytes ≡ Err fault
no_lists bytes cookie lists fault e f = rw (kexinit_parts bytes, e, f) refl

pub no_end : (bytes cookie lists end : List ℕ) (ten : Ten) (fault : WireFault) → bytes_at 16 bytes ≡ Ok (cookie, lists) → ten_at lists ≡ Ok (ten, end) → end_at end ≡ Err fault
    → form_at kexinit bytes ≡ Err fault
no_end bytes cookie lists end ten fault e f g = rw (kexinit_parts bytes, e, f, g) refl

pub all_parts : (bytes cookie lists end rest : List ℕ) (ten : Ten) (follows : Bool) (offer : KexInitData) → bytes_at 16 bytes ≡ Ok (cookie, lists) → ten_at lists ≡ Ok (ten, end) → end_at end ≡ Ok (follows, rest)
    → offer ≡ offer_with cookie ten follows → form_at kexinit bytes ≡ Ok (KexInit offer, rest)
all_parts bytes cookie lists end rest ten follows offer e f g is = rw (kexinit_parts bytes, e, f, g, is) refl

-- what was read, of an answer that is known
module _ {X Y : Type 0} where
  pub went : (view : X → Y) (r : Result X WireFault) (x : X) (new : List ℕ) (read : Result (Y × List ℕ) WireFault) → r ≡ Ok x → Goes view r new read → read ≡ Ok (view x, new)
  went view r x new read is goes = subst (λ (d : Result X WireFault). Goes view d new read) is goes

  pub refused : (view : X → Y) (r : Result X WireFault) (fault : WireFault) (new : List ℕ) (read : Result (Y × List ℕ) WireFault) → r ≡ Err fault → Goes view r new read → read ≡ Err fault
  refused view r fault new read is goes = subst (λ (d : Result X WireFault). Goes view d new read) is goes
