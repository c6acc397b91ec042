-- What a command line is made of.
use Rattle.std.proofs.Common.{◌≡◌, ◌∙◌, ap, ap₂, Bool, true, false, not, ◌&&◌}
use Rattle.std.proofs.Common.{refl}
use Rattle.clap.specs.Words.{AddsSubcommand, App, app_of}
use Rattle.clap.specs.Words.{with_subcommand}
use Rattle.clap.specs.declared.builder.command.Command.{Command}

-- a plain command has no global argument
local_of_plain : (a b g rest : Bool) → (a && (not b && (not g && rest))) ≡ true → g ≡ false
local_of_plain true false false rest h = refl
local_of_plain true false true rest h = cc
local_of_plain true true g rest h = cc
local_of_plain false b g rest h = cc

-- a command line with one more command
pub with_command : (old sub new : Command) (a s : App) → app_of old ≡ a → app_of sub ≡ s
    → s.top.is_plain ≡ true → AddsSubcommand old sub new
    → app_of new ≡ with_subcommand a s.top
with_command old sub new a s o i plain h =
    h.shape (local_of_plain _ _ _ _ (ap (λ (x : App). x.top.is_plain) i ∙ plain))
    ∙ ap₂ with_subcommand o (ap (λ (x : App). x.top) i)
