-- SPDX-License-Identifier: Apache-2.0
pub mod Entries
pub mod Sift
pub mod Heap
pub mod Victim
