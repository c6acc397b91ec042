-- What is found. This project's own.
use Rattle.std.specs.Prelude.{◌≡◌, ℕ, List}
use Rattle.misere_theory.specs.Certificates.{Certificate, Accepted, kind_of}
use Rattle.quotient_finder.specs.declared.reply.ProposerReply.{ProposerReply}
use Rattle.quotient_finder.specs.declared.reply.ProposerReply.TheVariants.{Found, Drafted, Nothing}

-- The certificate is accepted, and is one of this code and kind: 0 of the whole game, M of the heaps
-- 1 to M.
pub record IsFound (code : List ℕ) (kind : ℕ) (c : Certificate) : Type 0 where
  pub of_code : c.code ≡ code
  pub of_kind : kind_of c ≡ kind
  pub accepted : Accepted c

-- Where a certificate was found, it is one of this code and kind.
abbrev pub FindsOnly : List ℕ → ℕ → ProposerReply → Type 0
FindsOnly code kind (Found c) = IsFound code kind c
FindsOnly code kind Drafted = Unit {0}
FindsOnly code kind Nothing = Unit {0}
