-- The bytes of a list.
use Rattle.records.proofs.ReadBack.{read_written, past_written}
use Rattle.lists.proofs.WriteBack.{written_again, own_bytes, answered-again}
use Rattle.theorems.specs.Lists.{Lists}

pub lists : Lists
lists =
    record {
      read_written = read_written;
      past_written = past_written;
      written_again = written_again;
      own_bytes = own_bytes;
      answered-again = answered-again;
    }
