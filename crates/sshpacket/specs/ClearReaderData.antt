-- A reader in clear, as contracts see it: the packet reader that it is, which has no keys.

use Rattle.std.specs.Prelude.{◌≡◌, None}
use Rattle.sshpacket.specs.declared.clear_reader.ClearReader.{ClearReader}
use Rattle.sshpacket.specs.declared.reader.PacketReader.{PacketReader}
use Rattle.sshpacket.specs.PacketReaderData.{ReaderWaits, packet_reader_data}
use Rattle.sshpacket.specs.Suite.{SuiteData}

-- the packet reader inside a reader in clear
unfoldable pub packets_of : ClearReader → PacketReader
packets_of r = r.packets

-- a reader in clear has no keys and waits for more, whatever the suite
pub record ClearWaits (r : ClearReader) : Type 0 where
  pub clear : (packet_reader_data (packets_of r)).keys ≡ None
  pub waits : (m : SuiteData) → ReaderWaits m (packets_of r)
