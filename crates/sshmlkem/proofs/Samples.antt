-- The tables of the transform as FIPS 203 makes them, and compression in its words.

use Rattle.std.proofs.Common.{◌≡◌, ℕ, ◌+◌, ◌*◌, ◌/◌, ◌%◌, refl, arith}
use Rattle.sshkeccak.specs.Keccak.{each_from}
use Rattle.sshmlkem.specs.Codec.{compressed}
use Rattle.sshmlkem.specs.Ntt.{gammas, zetas}
use Rattle.sshmlkem.specs.NttNumbers.{gamma_at, power, zeta_at}

pub zetas_are : each_from 0 128 zeta_at ≡ zetas
unfolding power
zetas_are = refl

pub gammas_are : each_from 0 128 gamma_at ≡ gammas
unfolding power
gammas_are = refl

pub to_10_is : (n : ℕ) → compressed 10 n ≡ (2 * (n * 1024) + 3329) / 6658 % 1024
unfolding compressed
to_10_is n = let same : (2 * (n * 1024) + 3329) / 6658 ≡ (n * 1024 + 1664) / 3329 = omega arith in rw same refl

pub to_4_is : (n : ℕ) → compressed 4 n ≡ (2 * (n * 16) + 3329) / 6658 % 16
unfolding compressed
to_4_is n = let same : (2 * (n * 16) + 3329) / 6658 ≡ (n * 16 + 1664) / 3329 = omega arith in rw same refl

pub to_1_is : (n : ℕ) → compressed 1 n ≡ (2 * (n * 2) + 3329) / 6658 % 2
unfolding compressed
to_1_is n = let same : (2 * (n * 2) + 3329) / 6658 ≡ (n * 2 + 1664) / 3329 = omega arith in rw same refl
