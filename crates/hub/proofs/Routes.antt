-- The route of a port by its cases, and what it depends on.
-- Assumes nothing.
use mathlib.Core.Path.{◌≡◌}
use Prim.Native.Nat.{ℕ, ◌≤◌, ◌<◌}
use borrow.Author.Tests.{lt-ltb, le-ltb}
use lib.ListN.{length}
use Rattle.laws.specs.Reply.{refused, given}
use Rattle.formats.specs.declared.Format.{Format}
use Rattle.formats.specs.declared.Format.TheVariants.{Raw10, Raw12}
use Rattle.registers.specs.declared.RegisterFile.{RegisterFile}
use Rattle.registers.specs.RegisterMap.{FWD_CTL1, RAW10_ID, RAW12_ID}
use Rattle.registers.specs.RegisterFiles.{shared_at}
use Rattle.registers.proofs.RegisterFiles.{no_page}
use Rattle.hub.specs.Routes.{data_identifier, port_route, route_of}

-- there is no port above 3
pub no_identifier : (file : RegisterFile) (port : ℕ) (format : Format) → length file.pages ≡ 1024 → 3 < port
    → data_identifier file port format ≡ 0
no_identifier file port Raw10 count h = no_page file.pages port RAW10_ID count h
no_identifier file port Raw12 count h = no_page file.pages port RAW12_ID count h

module _ (file : RegisterFile) (port : ℕ) where
  pub route_refused : 3 < port → route_of file port ≡ refused 1
  unfolding route_of
  route_refused h = rw (lt-ltb 3 port h)

  pub route_given : port ≤ 3 → route_of file port ≡ given (port_route file port)
  unfolding route_of
  route_given h = rw (le-ltb 3 port h)

-- a route depends on FWD_CTL1 and the pages alone
pub same_route : (a b : RegisterFile) → shared_at a FWD_CTL1 ≡ shared_at b FWD_CTL1 → a.pages ≡ b.pages
    → (port : ℕ) → route_of a port ≡ route_of b port
unfolding route_of port_route
same_route a b shared pages port = rw (shared, pages)
