-- The laws of specs/Laws.antt, proved.
-- Assumes nothing.
use Rattle.std.proofs.Common.{Option, Some, None}
use mathlib.Core.Path.{◌≡◌, refl}
use mathlib.Core.Bool.{Bool, true, false, cond}
use mathlib.Core.List.{List, [], ◌∷◌, Memᴰ}
use Prim.Native.Nat.{ℕ, zero, suc, ◌+◌, ◌<◌}
use native.Mathlib.Omega.{arith}
use lib.Dec.{lit<}
use Rattle.laws.specs.Bits.{bit}
use Rattle.laws.specs.Reply.{given}
use Rattle.laws.proofs.Absurd.{zero_not_one}
use Rattle.registers.specs.RegisterMap.{BCC_CONFIG, SER_ALIAS_ID, TARGET_ALIAS_0}
use Rattle.registers.specs.RegisterFiles.{page_at, read_port}
use Rattle.translation.specs.declared.PortDevice.{PortDevice}
use Rattle.translation.specs.Translation.{Addressee, OutOfRange, TheHub, Ports}
use Rattle.translation.specs.Translation.{alias_matches, target_from, on_port, on_ports, receivers, addressee_of}
use Rattle.translation.specs.Translation.{answered_by, found, reached, who_hears_write, answered, who_answers_read}
use Rattle.translation.specs.Laws.{SameWriteAnswer, BehindPorts, WriteReachesPorts, ReadReachesPort}
use Rattle.translation.specs.Laws.{ReaderHears, EveryReaderHears}
use Rattle.translation.proofs.Collecting.{length-receivers}

pub same_write_answer : SameWriteAnswer
unfolding who_hears_write addressee_of
same_write_answer a b pages own address = rw (pages, own)

-- the device of an answer, if there is one, is behind a port below 4
data Behind : Option PortDevice → Type 0 where
  no_device_lem : Behind None
  one_device : {device : PortDevice} → device.port < 4 → Behind (Some device)

either : (b : Bool) {x y : Option PortDevice} → Behind x → Behind y → Behind (cond b x y)
either true p q = p
either false p q = q

-- a port's answer names that port
module _ (pages : List ℕ) (address port : ℕ) (small : port < 4) where
  target_behind : (k n : ℕ) → Behind (target_from pages port address k n)
  unfolding target_from
  target_behind k zero = no_device_lem
  target_behind k (suc n) =
      either (alias_matches (page_at pages port (TARGET_ALIAS_0 + k)) address)
      (one_device small) (target_behind (suc k) n)

  port_behind : Behind (on_port pages port address)
  unfolding on_port
  port_behind =
      either (bit 6 (page_at pages port BCC_CONFIG))
      (either (alias_matches (page_at pages port SER_ALIAS_ID) address) (one_device small) (target_behind 0 8)) no_device_lem

abbrev AllBehind : List (Option PortDevice) → Type 0
AllBehind [] = Unit
AllBehind (answer ∷ answers) = Behind answer × AllBehind answers

devices_behind : (answers : List (Option PortDevice)) → AllBehind answers
    → (device : PortDevice) → Memᴰ device (receivers answers) → device.port < 4
unfolding receivers
devices_behind [] h device m = elim m [ ]
devices_behind (None ∷ answers) h device m = devices_behind answers h.1 device m
devices_behind (Some d ∷ answers) (one_device p, h) device (Memᴰ.head e) = rw e p
devices_behind (Some d ∷ answers) h device (Memᴰ.tail m) = devices_behind answers h.1 device m

all-behind : (pages : List ℕ) (address : ℕ) → BehindPorts (receivers (on_ports pages address))
all-behind pages address =
    let own = port_behind pages address in
    record {
      few = length-receivers (on_ports pages address);
      ports = devices_behind (on_ports pages address)
          (own 0 (lit< tt), (own 1 (lit< tt), (own 2 (lit< tt), (own 3 (lit< tt), tt))));
    }

pub write_reaches_ports : WriteReachesPorts
unfolding who_hears_write
write_reaches_ports hub address devices = go (addressee_of hub address) _ (all-behind hub.registers.pages address)
  where
    go : (a : Addressee) (ds : List PortDevice) → BehindPorts ds
        → answered_by a (given (reached ds)) ≡ given (found devices) → BehindPorts devices
    go OutOfRange ds b e = zero_not_one (cc)
    go TheHub ds b e = zero_not_one (cc)
    go Ports [] b e = zero_not_one (cc)
    go Ports (d ∷ ds) b e = let same : devices ≡ d ∷ ds = cc in rw same b

pub read_reaches_port : ReadReachesPort
unfolding who_answers_read
read_reaches_port hub address device =
    let pages = hub.registers.pages in
    go (addressee_of hub address) _ _
    (port_behind pages address (read_port hub.registers) (omega arith)) (all-behind pages address)
  where
    go : (a : Addressee) (own : Option PortDevice) (ds : List PortDevice) → Behind own → BehindPorts ds
        → answered_by a (answered own ds) ≡ given (found device) → device.port < 4
    go OutOfRange own ds p b e = zero_not_one (cc)
    go TheHub own ds p b e = zero_not_one (cc)
    go Ports (Some d) ds (one_device p) b e = let same : device ≡ d = cc in rw same p
    go Ports None [] p b e = zero_not_one (cc)
    go Ports None (d ∷ []) p b e = b.ports device (Memᴰ.head (cc))
    go Ports None (d ∷ f ∷ ds) p b e = zero_not_one (cc)

-- the device of a port that matches is among those that a write reaches
receiver_of : (answers : List (Option PortDevice)) (device : PortDevice) → Memᴰ (Some device) answers
    → Memᴰ device (receivers answers)
unfolding receivers
receiver_of [] device m = elim m [ ]
receiver_of (None ∷ answers) device (Memᴰ.head e) = zero_not_one (cc)
receiver_of (None ∷ answers) device (Memᴰ.tail m) = receiver_of answers device m
receiver_of (Some d ∷ answers) device (Memᴰ.head e) = let same : device ≡ d = cc in Memᴰ.head same
receiver_of (Some d ∷ answers) device (Memᴰ.tail m) = Memᴰ.tail (receiver_of answers device m)

port_among : (pages : List ℕ) (address port : ℕ) → port < 4
    → Memᴰ (on_port pages port address) (on_ports pages address)
port_among pages address zero h = Memᴰ.head refl
port_among pages address (suc zero) h = Memᴰ.tail (Memᴰ.head refl)
port_among pages address (suc (suc zero)) h = Memᴰ.tail (Memᴰ.tail (Memᴰ.head refl))
port_among pages address (suc (suc (suc zero))) h =
    Memᴰ.tail (Memᴰ.tail (Memᴰ.tail (Memᴰ.head refl)))
port_among pages address (suc (suc (suc (suc port)))) h = absurd (omega arith)

pub every_reader_hears : EveryReaderHears
unfolding who_hears_write who_answers_read
every_reader_hears hub address =
    let pages = hub.registers.pages in
    let port = read_port hub.registers in
    let own = port_among pages address port (omega arith) in
    go (addressee_of hub address) (on_port pages port address) (receivers (on_ports pages address))
    (λ device e. receiver_of (on_ports pages address) device (rw e at own)) refl refl
  where
    go : (a : Addressee) (own : Option PortDevice) (ds : List PortDevice)
        → ((device : PortDevice) → own ≡ Some device → Memᴰ device ds)
        → who_answers_read hub address ≡ answered_by a (answered own ds)
        → who_hears_write hub address ≡ answered_by a (given (reached ds)) → ReaderHears hub address
    go OutOfRange own ds among r w =
        record {
          device = λ f e. zero_not_one (cc);
          the_hub = λ e. zero_not_one (cc);
          none = λ e. zero_not_one (cc);
        }
    go TheHub own ds among r w =
        record { device = λ f e. zero_not_one (cc); the_hub = λ e. w; none = λ e. zero_not_one (cc) }
    go Ports (Some d) [] among r w = absurd (elim (among d refl) [ ])
    go Ports (Some d) (x ∷ ds) among r w =
        record {
          device = λ f e. record { devices = x ∷ ds; answer = w; member = among f (cc) };
          the_hub = λ e. zero_not_one (cc);
          none = λ e. zero_not_one (cc);
        }
    go Ports None [] among r w =
        record { device = λ f e. zero_not_one (cc); the_hub = λ e. zero_not_one (cc); none = λ e. r }
    go Ports None (d ∷ []) among r w =
        record {
          device = λ f e.
              (let same : f ≡ d = cc in
              record { devices = d ∷ []; answer = w; member = Memᴰ.head same });
          the_hub = λ e. zero_not_one (cc);
          none = λ e. zero_not_one (cc);
        }
    go Ports None (d ∷ x ∷ ds) among r w =
        record {
          device = λ f e. zero_not_one (cc);
          the_hub = λ e. zero_not_one (cc);
          none = λ e. zero_not_one (cc);
        }
