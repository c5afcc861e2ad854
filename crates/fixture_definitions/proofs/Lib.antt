pub mod NoTests
